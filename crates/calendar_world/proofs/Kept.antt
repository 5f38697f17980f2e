-- What a mirror keeps of a zone, where it holds the calendars of a release.
use Rattle.std.proofs.Common.{◌≡◌, ℕ, Bool, true, false, cond, None, Some, List, [], ◌∷◌, refl, sym, subst, ap, ◌∙◌, map, option_map}
use Rattle.std.specs.Str.{bytes_eq}
use Rattle.catalogue.specs.Histories.{IsHistory}
use Rattle.catalogue.specs.Lookups.{zone_at, zones_of}
use Rattle.catalogue.specs.Releases.{ContentData, ReleaseData}
use Rattle.zone_meaning.specs.Sound.{IsSound}
use Rattle.sync_core.specs.Mirrors.{MirrorState, ZoneFile, file_name}
use Rattle.sync_core.specs.Names.{at_text}
use Rattle.sync_world.specs.Calendars.{HoldsCalendars, kept_calendar, zone_calendar}
use Rattle.calendar_world.specs.Reading.{KeepsCalendarText}
use Rattle.calendar_world.proofs.Named.{tzid_is, zone_there}
use Rattle.calendar_world.proofs.Told.{Fits, IsRead, IsTold, reads_so}

text_at : (cs : List ContentData) (tzid : List ℕ) → at_text file_name (map kept_calendar cs) tzid ≡ option_map kept_calendar (zone_at cs tzid)
text_at [] tzid = refl
text_at (c ∷ cs) tzid = by (bytes_eq tzid c.tzid) (text_at cs tzid)
  where
    by : (b : Bool) → at_text file_name (map kept_calendar cs) tzid ≡ option_map kept_calendar (zone_at cs tzid)
        → cond b (Some (kept_calendar c)) (at_text file_name (map kept_calendar cs) tzid) ≡ option_map kept_calendar (cond b (Some c) (zone_at cs tzid))
    by true again = refl
    by false again = again

pub calendar_kept : Fits → IsRead → IsTold → (G : List ReleaseData) (s : MirrorState) (tzid : List ℕ) (c : ContentData) → IsHistory IsSound G
    → HoldsCalendars s G → zone_at (zones_of G) tzid ≡ Some c → KeepsCalendarText s.files tzid c.file
calendar_kept fits read told G s tzid c history holds e =
    let k = zone_there G tzid c history e in
    let at : at_text file_name s.files tzid ≡ Some (kept_calendar c) =
    ap (λ (texts : List ZoneFile). at_text file_name texts tzid) holds.texts ∙ text_at (zones_of G) tzid ∙ ap (option_map kept_calendar) e in
    let P : List ℕ → Type 0 = λ t. KeepsCalendarText s.files t c.file in
    let same = tzid_is tzid (zones_of G) c e in
    subst P (sym same) (record {
      text = zone_calendar c;
      kept = subst (λ (t : List ℕ). at_text file_name s.files t ≡ Some (kept_calendar c)) same at;
      is_calendar = reads_so fits read told c.file c.tzid None k.file k.tzid tt;
    })
