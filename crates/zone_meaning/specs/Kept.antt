-- What a zone keeps beside the bytes of its file.
use Rattle.std.specs.Prelude.{◌≡◌, ℕ, ◌<◌, List, length, All, Option, None}
use Rattle.std.specs.Option.{IfSome}
use Rattle.tzif_reader.specs.declared.zone_file.ZoneFile.{ZoneFile}
use Rattle.tzif_reader.specs.Layout.{AreRising}
use Rattle.tzif_reader.specs.Cut.{lists_of}
use Rattle.tzif_reader.specs.Places.{IsRestOf}
use Rattle.posix_footer.specs.declared.rule_types.Footer.{Footer}
use Rattle.posix_footer.specs.Lawful.{IsLawful, IsLawfulOffset}
use Rattle.zone_meaning.specs.Faults.{zone_fault}
use Rattle.zone_meaning.specs.State.{footer_meant}
use Rattle.zone_meaning.specs.declared.zone_type.ZoneParts.{ZoneParts}

-- the lists and the footer are those of the file, which has no fault
pub record IsReadFrom (file : List ℕ) (lists : ZoneFile) (footer : Option Footer) : Type 0 where
  pub no_fault : zone_fault file ≡ None
  pub lists_are : lists ≡ lists_of file
  pub footer_is : footer ≡ footer_meant lists.footer
  pub lawful : IfSome footer IsLawful

-- the parts of a zone are those of its file
pub record AreReadParts (parts : ZoneParts) : Type 0 where
  pub rest : IsRestOf parts.file parts.rest
  pub read : IsReadFrom parts.file (lists_of parts.file) parts.footer

-- there is a type for each transition, and for the time before them, each offset is less than a
-- day, and the transitions rise
pub record HasTypes (z : ZoneFile) : Type 0 where
  pub each : length z.numbers ≡ length z.moments
  pub known : All (λ number. number < length z.kinds) z.numbers
  pub first : 0 < length z.kinds
  pub offsets : All (λ kind. IsLawfulOffset kind.offset) z.kinds
  pub rising : AreRising z.moments
