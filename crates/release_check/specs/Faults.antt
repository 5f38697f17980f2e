-- What is wrong with a release: as its manifest tells it, before any file that it names is read, by
-- itself and against what stands before it (`Before`); and with the file of one of its zones.
use Rattle.std.specs.Prelude.{ℕ, ◌+◌, List, [], ◌∷◌, ◌++◌, length, nat_lt, if◌then◌else◌, Option}
use Rattle.std.specs.Prelude.{None, Some, Bool, true, not, IsTrue, false}
use Rattle.std.specs.List.{list_all, list_any}
use Rattle.std.specs.Str.{bytes_eq}
use Rattle.std.specs.Option.{option_map, option_map_or}
use Rattle.td_base.specs.FirstFault.{◌or_else◌, when}
use Rattle.td_base.specs.Names.{is_identifier, is_label}
use Rattle.td_civil.specs.Bounds.{HasMeaning, has_meaning}
use Rattle.td_civil.specs.Reading.{is_date_text}
use Rattle.tzif_reader.specs.Cut.{lists_of}
use Rattle.tzif_reader.specs.Faults.{first_fault}
use Rattle.posix_footer.specs.Carried.{beyond}
use Rattle.catalogue.specs.declared.limits.TheConstants.{MOST_ZONES, MOST_NAMES}
use Rattle.release_manifest.specs.declared.manifest_type.Manifest.{Manifest}
use Rattle.release_manifest.specs.declared.manifest_type.ManifestZone.{ManifestZone}
use Rattle.release_manifest.specs.declared.manifest_type.ManifestLeaps.{ManifestLeaps}
use Rattle.release_manifest.specs.declared.manifest_fault.ManifestFault.TheVariants as manifest
use Rattle.release_manifest.specs.declared.manifest_fault.Path.{Path}
use Rattle.release_manifest.specs.declared.manifest_fault.Path.TheVariants as path
use Rattle.zone_meaning.specs.Agreement.{footer_agrees}
use Rattle.zone_meaning.specs.Faults.{footer_text_fault}
use Rattle.zone_meaning.specs.Names.{has_printable_names}
use Rattle.zone_meaning.specs.State.{footer_meant}
use Rattle.release_check.specs.Before.{Before, stamp_fault, drop_fault, place_fault}
use Rattle.release_check.specs.declared.check_fault.Limited.TheVariants as limited
use Rattle.release_check.specs.declared.check_fault.CheckFault.{CheckFault}
use Rattle.release_check.specs.declared.check_fault.CheckFault.TheVariants as fault

-- ---- what a manifest tells

-- the names of zones in the order of the manifest: each identifier before its aliases
abbrev pub names_in : List ManifestZone → List (List ℕ)
names_in [] = []
names_in (z ∷ zs) = z.tzid ∷ z.aliases ++ names_in zs

-- too many zones, or too many names
abbrev pub limit_fault : ℕ → ℕ → Option CheckFault
limit_fault zones names =
    when (nat_lt MOST_ZONES zones) (fault.Limit limited.Zones zones)
    or_else when (nat_lt MOST_NAMES names) (fault.Limit limited.Names names)

-- the first zone, counted from n, of which a name is no identifier
abbrev pub identifier_fault : ℕ → List ManifestZone → Option CheckFault
identifier_fault n [] = None
identifier_fault n (z ∷ zs) =
    if list_all is_identifier (z.tzid ∷ z.aliases) then identifier_fault (n + 1) zs
    else Some (fault.Identifier n)

-- the first of the names that stands among those before it
abbrev pub duplicate_fault : List (List ℕ) → List (List ℕ) → Option CheckFault
duplicate_fault before [] = None
duplicate_fault before (name ∷ names) =
    if list_any (bytes_eq name) before then Some (fault.Duplicate name)
    else duplicate_fault (before ++ name ∷ []) names

-- The first fault of what a manifest says, by itself and against what stands before it.
unfoldable pub manifest_fault : Before → Manifest → Option CheckFault
manifest_fault before m =
    limit_fault (length m.zones) (length (names_in m.zones))
    or_else stamp_fault before.last m.stamp
    or_else identifier_fault 0 m.zones
    or_else duplicate_fault [] (names_in m.zones)
    or_else drop_fault before.last (names_in m.zones)
    or_else place_fault before.count

-- a text of a manifest that has not its form; a manifest that was read from a text has none
abbrev pub form_text_fault : Bool → Path → Option CheckFault
form_text_fault fits at = when (not fits) (fault.Manifest (manifest.Text at))

abbrev pub has_date : Option ManifestLeaps → Bool
has_date None = true
has_date (Some leaps) = is_date_text leaps.expires

-- the first of the texts of a manifest value that has not its form
unfoldable pub form_fault : Manifest → Option CheckFault
form_fault m =
    form_text_fault (is_label m.publisher) path.Publisher
    or_else form_text_fault (is_label m.version) path.Version
    or_else form_text_fault (has_meaning m.stamp.seconds) path.Stamp
    or_else form_text_fault (has_date m.leaps) path.Expires

-- each of these texts has its form
pub record IsFormed (m : Manifest) : Type 0 where
  pub publisher : IsTrue (is_label m.publisher)
  pub version : IsTrue (is_label m.version)
  pub stamp : HasMeaning m.stamp.seconds
  pub expires : IsTrue (has_date m.leaps)

-- ---- the file of a zone

-- a name is not one that can be printed
abbrev pub names_fault : ℕ → List ℕ → Option CheckFault
names_fault n bytes = when (not (has_printable_names bytes)) (fault.NameBeyond n)

-- its footer does not go on from its last transition
abbrev pub agreement_fault : ℕ → List ℕ → Option CheckFault
agreement_fault n bytes = when (not (footer_agrees (lists_of bytes))) (fault.FooterDisagrees n)

-- no yearly rules say what its footer says
abbrev pub rule_fault : ℕ → List ℕ → Option CheckFault
rule_fault n bytes =
    when (option_map_or beyond (footer_meant (lists_of bytes).footer) false) (fault.RuleBeyond n)

-- what is wrong with what a zone means
unfoldable pub meaning_fault : ℕ → List ℕ → Option CheckFault
meaning_fault n bytes =
    agreement_fault n bytes or_else names_fault n bytes or_else rule_fault n bytes

-- The first fault of the file of the zone with this number. It has leap lines where its list has
-- any, of whatever kind.
unfoldable pub file_fault : ℕ → List ℕ → Option CheckFault
file_fault n bytes =
    option_map (fault.Tzif n) (first_fault bytes)
    or_else when (list_any (λ line. true) (lists_of bytes).leaps) (fault.LeapsInZone n)
    or_else option_map (fault.FooterText n) (footer_text_fault (lists_of bytes).footer)
    or_else meaning_fault n bytes
