-- What is heard where a zone is asked for as a calendar is taken as it is.
use Rattle.std.proofs.Common.{◌≡◌, ◌↔◌, ◌≤◌, ℕ, Bool, true, false, cond, Option, None, Some, List, length, refl, sym, subst, ap, ◌∙◌}
use Rattle.std.proofs.Common.{option_map}
use Rattle.std.specs.Option.{IfSome}
use Rattle.std.specs.Str.{bytes_eq}
use Rattle.td_base.specs.Names.{is_identifier}
use Rattle.td_base.specs.declared.report.Ask.{Ask}
use Rattle.td_base.specs.declared.report.Ask.TheVariants as ask
use Rattle.td_base.specs.declared.report.Role.TheVariants.{Primary}
use Rattle.catalogue.specs.Histories.{IsHistory}
use Rattle.catalogue.specs.Lookups.{named, zones_of}
use Rattle.catalogue.specs.Releases.{ContentData, ReleaseData}
use Rattle.http_request.specs.declared.head.Head.{Head}
use Rattle.negotiate.specs.declared.choosing.Format.TheVariants.{Calendar}
use Rattle.zone_meaning.specs.Sound.{IsSound}
use Rattle.actions.specs.Action.{action}
use Rattle.actions.specs.Formats.{alias_of, calendar_text}
use Rattle.sync_core.specs.declared.heard_type.Heard.{Heard}
use Rattle.sync_core.specs.declared.heard_type.Heard.TheVariants as heard
use Rattle.sync_core.proofs.lemmas.Puts.{same_bytes}
use Rattle.mirror.specs.Understanding.{Means}
use Rattle.mirror.specs.declared.understood_type.Understood.{Understood}
use Rattle.mirror.specs.declared.understood_type.Understood.TheVariants as understood
use Rattle.calendar_mirror.specs.Judging.{IsJudged, hears, judged_by, judged_calendar, judged_data, judged_heard}
use Rattle.calendar_mirror.specs.declared.judged_type.Judged.{Judged}
use Rattle.sync_world.specs.Calendars.{IsCalendarHeadOf, IsCalendarHeardOver, calendar_service}
use Rattle.sync_world.specs.Hearing.{IsHeardIn, whole_data}
use Rattle.sync_world.specs.Primaries.{file_told, told_by}
use Rattle.calendar_world.specs.Reading.{IsCalendarAnswer, IsZoneCalendar}
use Rattle.calendar_world.proofs.Named.{zone_named}
use Rattle.calendar_world.proofs.Told.{Fits, IsRead, IsTold, reads_so}

-- what is heard is what there is to be told
abbrev pub AreHeard : Type 0
AreHeard =
    (H : List ReleaseData) (a : Ask) (head : Head) (h : Heard) → IsHistory IsSound H → 1 ≤ length H → IsCalendarHeadOf a head
    → (told_by calendar_service H a ≡ Some h) ↔ IsHeardIn a (action H Primary head) h

-- an answer means one thing alone
abbrev pub OneMeaning : Type 0
OneMeaning = (a : Ask) (answer : List ℕ) (u v : Understood) → Means a answer u → Means a answer v → u ≡ v

-- the zone of which the name is an alias
other_name : (name tzid : List ℕ) → is_identifier tzid ≡ true → IfSome (alias_of name tzid) (λ t. is_identifier t ≡ true)
other_name name tzid is = by (bytes_eq name tzid)
  where
    by : (same : Bool) → IfSome (cond same None (Some tzid)) (λ t. is_identifier t ≡ true)
    by true = tt
    by false = is

module _ (fits : Fits) (read : IsRead) (told : IsTold) (heard_so : AreHeard) where
  of_zone : (G : List ReleaseData) (name : List ℕ) (h : Heard) (o : Option ContentData) → IsHistory IsSound G → named (zones_of G) name ≡ o
      → option_map file_told (option_map (whole_data Calendar name) o) ≡ Some h → IsCalendarAnswer G name h
  unfolding calendar_text
  of_zone G name h None history is e = absurd (cc)
  of_zone G name h (Some c) history is e =
      let k = zone_named G name c history is in
      let same : file_told (whole_data Calendar name c) ≡ h = cc in
      record {
        zone = c;
        has_name = is;
        text = whole_data Calendar name c;
        is_heard = sym same;
        is_calendar = reads_so fits read told c.file name (alias_of name c.tzid) k.file k.asked (other_name name c.tzid k.tzid);
      }

  pub answer_is : (G : List ReleaseData) (name : List ℕ) (h : Heard) → IsHistory IsSound G → 1 ≤ length G → IsCalendarHeardOver G (ask.Get name) h
      → IsCalendarAnswer G name h
  answer_is G name h history some k =
      of_zone G name h (named (zones_of G) name) history refl ((heard_so G (ask.Get name) k.head h history some k.asks_so).1 k.hears)

  -- ---- how it is judged

  judged_so : (name file text : List ℕ) → IsZoneCalendar name file text → judged_data name (heard.Zone text) ≡ hears (heard.Zone text)
  judged_so name file text k =
      let P : List ℕ → Type 0 = λ tzid. bytes_eq tzid name ≡ true in
      let same : bytes_eq k.calendar.tzid name ≡ true = subst P (sym k.is_named) (same_bytes name) in
      ap (judged_calendar name text) k.reads ∙ rw same refl

  answer_judged : (G : List ReleaseData) (a : Ask) (h : Heard) → IsHistory IsSound G → 1 ≤ length G → IsCalendarHeardOver G a h → judged_heard a h ≡ hears h
  answer_judged G (ask.List token) h history some k = refl
  answer_judged G (ask.Get name) h history some k =
      let is = answer_is G name h history some k in
      subst (λ (x : Heard). judged_data name x ≡ hears x) (sym is.is_heard) (judged_so name is.zone.file is.text is.is_calendar)

  pub judged_is : OneMeaning → (G : List ReleaseData) (a : Ask) (h : Heard) (answer : List ℕ) (j : Judged) → IsHistory IsSound G → 1 ≤ length G
      → IsCalendarHeardOver G a h → Means a answer (understood.Hears h) → IsJudged a answer j → j ≡ hears h
  judged_is one G a h answer j history some k means judged =
      judged.2 ∙ ap (judged_by a) (one a answer judged.0 (understood.Hears h) judged.1 means) ∙ answer_judged G a h history some k
