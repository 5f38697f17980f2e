-- The law of a mirror that asks for calendars.
use Rattle.std.proofs.Common.{◌≡◌, ℕ, ◌≤◌, None, Some, List, [], ◌∷◌, length, take, map, refl, ap, ◌∙◌, cond}
use Rattle.catalogue.specs.Histories.{IsHistory}
use Rattle.catalogue.specs.Lookups.{zones_of}
use Rattle.catalogue.specs.Releases.{ContentData, ReleaseData}
use Rattle.negotiate.specs.declared.choosing.Format.TheVariants.{Calendar}
use Rattle.zone_meaning.specs.Sound.{IsSound}
use Rattle.actions.specs.Formats.{alias_of, calendar_text}
use Rattle.sync_core.specs.Mirrors.{MirrorState, ZoneFile}
use Rattle.sync_core.specs.declared.heard_type.Heard.{Heard}
use Rattle.sync_core.proofs.lemmas.Puts.{same_bytes}
use Rattle.vtimezone.specs.CalendarText.{calendar}
use Rattle.vtimezone.specs.ZoneParts.{range_parts}
use Rattle.sync_world.specs.Calendars.{HoldsCalendars, IsCalendarHeardOver, all_time, kept_calendar, zone_calendar}
use Rattle.sync_world.specs.Hearing.{data_service, whole_data}
use Rattle.sync_world.specs.Holding.{HoldsLast, SaysHolds, file_of}
use Rattle.sync_world.specs.Worlds.{IsAnswer, Leads, Sent, SyncWorld, WorldStep, world_begun}
use Rattle.sync_world.proofs.Law.{law}
use Rattle.sync_world.proofs.Telling.{tells_so}
use Rattle.sync_world.proofs.Tokens.{finds, finds_no_other}

-- a name is no alias of itself
no_alias : (tzid : List ℕ) → alias_of tzid tzid ≡ None
no_alias tzid = ap (λ same. cond same None (Some tzid)) (same_bytes tzid)

own_calendar : (c : ContentData) → whole_data Calendar c.tzid c ≡ zone_calendar c
unfolding calendar_text
own_calendar c = ap (λ alias. calendar c.tzid alias (range_parts c.file all_time) None) (no_alias c.tzid)

texts_kept : (cs : List ContentData) → map (file_of (data_service Calendar)) cs ≡ map kept_calendar cs
texts_kept [] = refl
texts_kept (c ∷ cs) =
    ap (λ text. record { tzid = c.tzid; bytes = text } ∷ map (file_of (data_service Calendar)) cs) (own_calendar c)
    ∙ ap (λ (l : List ZoneFile). kept_calendar c ∷ l) (texts_kept cs)

holds_so : (s : MirrorState) (G : List ReleaseData) → HoldsLast (data_service Calendar) s G → HoldsCalendars s G
holds_so s G k = record {
  token = k.token;
  entries = k.entries;
  texts = k.files ∙ texts_kept (zones_of G);
  pending = k.pending;
  coming = k.coming;
}

pub calendars_held : (H : List ReleaseData) (xs : List WorldStep) (w v : SyncWorld) (n : ℕ) (sent : Sent) (h : Heard) → IsHistory IsSound H
    → 1 ≤ length H → Leads IsSound IsCalendarHeardOver (world_begun H) xs w → IsAnswer IsCalendarHeardOver w n v sent h → SaysHolds w.mirror h
    → HoldsCalendars v.mirror (take n w.history)
calendars_held H xs w v n sent h history some leads a says =
    holds_so v.mirror (take n w.history)
    (law (data_service Calendar) IsSound IsCalendarHeardOver (tells_so Calendar) finds finds_no_other H xs w v n sent h history some leads a says)
