-- Which releases of zones are sound.
use Rattle.std.specs.Prelude.{◌≡◌, ℕ, List, [], map, None, IfSome}
use Rattle.std.specs.Bool.{IsTrue}
use Rattle.std.specs.List.{AllByRecursion}
use Rattle.td_base.specs.Names.{is_label}
use Rattle.td_civil.specs.Bounds.{HasMeaning}
use Rattle.td_civil.specs.Reading.{is_date_text}
use Rattle.tzif_reader.specs.Cut.{lists_of}
use Rattle.tzif_reader.specs.Faults.{first_fault}
use Rattle.tzif_reader.specs.LeapSteps.{leap_fault, leap_steps}
use Rattle.posix_footer.specs.Carried.{IsCarriedIfAny}
use Rattle.catalogue.specs.declared.release.Leaps.{Leaps}
use Rattle.catalogue.specs.Releases.{ReleaseData}
use Rattle.zone_meaning.specs.Agreement.{footer_agrees}
use Rattle.zone_meaning.specs.Faults.{zone_fault}
use Rattle.zone_meaning.specs.Names.{has_printable_names}
use Rattle.zone_meaning.specs.State.{footer_meant}

-- a file is a zone, has no leap lines, has names alone that can be printed, and its footer goes on
-- from its last transition and can be said by yearly rules
pub record IsSoundFile (file : List ℕ) : Type 0 where
  pub no_fault : zone_fault file ≡ None
  pub no_leaps : (lists_of file).leaps ≡ []
  pub agrees : IsTrue (footer_agrees (lists_of file))
  pub names : IsTrue (has_printable_names file)
  pub carried : IsCarriedIfAny (footer_meant (lists_of file).footer)

-- a table of leap seconds: its file is a zone file whose leap lines are a table, the steps are
-- those of the lines, and it expires on a date
pub record IsSoundLeaps (leaps : Leaps) : Type 0 where
  pub file : first_fault leaps.file ≡ None
  pub lines : leap_fault (lists_of leaps.file).leaps ≡ None
  pub steps : map (λ s. (s.day, s.offset)) leaps.steps ≡ leap_steps (lists_of leaps.file).leaps
  pub expires : IsTrue (is_date_text leaps.expires)

-- the texts are labels, the stamp has a meaning, and the files and the table of leap seconds, if
-- there is one, are sound
pub record IsSound (r : ReleaseData) : Type 0 where
  pub publisher : IsTrue (is_label r.publisher)
  pub version : IsTrue (is_label r.version)
  pub stamp : HasMeaning r.stamp
  pub files : AllByRecursion (λ c. IsSoundFile c.file) r.contents
  pub leaps : IfSome r.leaps IsSoundLeaps
