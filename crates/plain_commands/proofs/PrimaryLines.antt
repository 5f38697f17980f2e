-- What the calendars of a primary tell of a range is what the files of its zones tell.
use Rattle.std.proofs.Common.{◌≡◌, ℕ, ◌≤◌, Bool, true, false, cond, List, [], ◌∷◌, ◌++◌, length, take, map, Option, None, Some, Result, Ok}
use Rattle.std.proofs.Common.{refl, sym, ap, subst, ◌∙◌, ℤ, ◌<ℤ◌, append-nil, arith}
use Rattle.std.specs.Prelude.{int_lt}
use Rattle.std.specs.Int.{int_max}
use Rattle.std.specs.List.{AllByRecursion, flat_map}
use Rattle.std.specs.Option.{option_map}
use Rattle.std.specs.Str.{bytes_eq}
use Rattle.std.proofs.lemmas.Grind.{flat_map-append}
use Rattle.std.proofs.lemmas.List.{map-append}
use Rattle.std.proofs.lemmas.Int.{ints}
use Rattle.td_base.specs.Transfer.{WritesAll}
use Rattle.td_base.specs.Views.{SinkView}
use Rattle.td_base.specs.declared.transfer.Written.{Written}
use Rattle.td_base.specs.declared.transfer.Written.TheVariants as written
use Rattle.td_base.specs.declared.upstream.Exchange.{Exchange}
use Rattle.td_civil.specs.declared.local_time.Local.{Local}
use Rattle.td_civil.specs.declared.local_time.Observance.{Observance}
use Rattle.td_civil.specs.declared.moment_type.Moment.{Moment}
use Rattle.catalogue.specs.Histories.{IsHistory, entries_of, entry_of, last_release, meta}
use Rattle.catalogue.specs.Lookups.{contents_of, zone_at, zones_of}
use Rattle.catalogue.specs.Order.{IsRising, is_before}
use Rattle.catalogue.specs.Releases.{ContentData, ReleaseData}
use Rattle.catalogue.proofs.lemmas.LastRelease.{last_of}
use Rattle.catalogue.proofs.lemmas.Rising.{not_before_itself}
use Rattle.http_client.specs.CalendarRequests.{calendar_request_text}
use Rattle.json_forms.specs.declared.zone_list.ListZone.{ListZone}
use Rattle.recurrence.specs.declared.part_types.Part.{Part}
use Rattle.zone_meaning.specs.Observed.{IsRange, first_at, observed}
use Rattle.zone_meaning.specs.Sound.{IsSound}
use Rattle.zone_meaning.specs.State.{zone_state}
use Rattle.zone_meaning.proofs.lemmas.RangeLemmas.{first_onset}
use Rattle.actions.specs.Listing.{list_zone}
use Rattle.sync_core.specs.Mirrors.{MirrorState, ZoneFile, empty_mirror, entry_name}
use Rattle.sync_core.specs.Published.{bytes_of, file_bytes}
use Rattle.sync_core.proofs.lemmas.Puts.{bytes_same, same_bytes}
use Rattle.vtimezone_reader.specs.Observing.{IsFirstOnset, calendar_observed}
use Rattle.vtimezone_reader.specs.Onsets.{calendar_state}
use Rattle.vtimezone_reader.specs.ReadLines.{calendar_in}
use Rattle.vtimezone_reader.specs.declared.calendar_type.Calendar.{Calendar}
use Rattle.calendar_mirror.specs.CalendarShares.{CalendarSyncEnds}
use Rattle.calendar_mirror.specs.Judging.{MeansSound}
use Rattle.calendar_mirror.specs.declared.sync_fault.CalendarSyncFault.{CalendarSyncFault}
use Rattle.sync_world.specs.Calendars.{HoldsCalendars}
use Rattle.sync_world.specs.Primaries.{list_told}
use Rattle.sync_world.specs.Worlds.{SyncWorld, WorldStep, world_begun}
use Rattle.mirror_world.specs.Logs.{Logs}
use Rattle.calendar_world.specs.Endings.{HoldsAt, IsCalendarAnsweredOver}
use Rattle.calendar_world.specs.Reading as reading
use Rattle.run_ends.specs.Running.CalendarMirroring.{CalendarTells, PrintsCalendars, ZoneTells, ZonesTell, all, cut, end_within, more, none, part}
use Rattle.run_ends.specs.Running.CalendarMirroring.{range_lines}
use Rattle.run_ends.specs.Running.CalendarMirroring.ObservanceLines.{observance_line, zone_line}
use Rattle.run_ends.specs.Running.CalendarMirroring.PrimaryLines.{PrintsFirst, PrintsPrimary, PrintsZones, lines_of_zone, lines_of_zones}
use Rattle.run_ends.specs.declared.status.Status.{Status}
use Rattle.plain_commands.proofs.CalendarLemmas.{same_calendar, same_text}

-- what is known of a mirror of calendars and its primary
pub record CalendarLaws : Type 0 where
  pub hold : (H : List ReleaseData) (steps : List WorldStep) (w : SyncWorld) (host : List ℕ) (t : MirrorState) (taken untaken : List Exchange)
      (result : Result (Unit {0}) CalendarSyncFault) → IsHistory IsSound H → 1 ≤ length H
      → Logs IsSound IsCalendarAnsweredOver MeansSound (world_begun H) steps taken w
      → CalendarSyncEnds (calendar_request_text host) empty_mirror t taken untaken result → result ≡ Ok tt → (n : ℕ) × HoldsAt w.history n taken t
  pub told : (G : List ReleaseData) (s : MirrorState) (tzid : List ℕ) (c : ContentData) → IsHistory IsSound G → HoldsCalendars s G
      → zone_at (zones_of G) tzid ≡ Some c → reading.KeepsCalendarText s.files tzid c.file

-- ---- the lines of a zone

-- two lists of observances that are one begin at one moment
one_begin : (p q : ℤ → Local) (a b u v : ℤ) → observed p a u ≡ observed q b v → a ≡ b
unfolding observed
one_begin p q a b u v e =
    let heads : first_at p a ≡ first_at q b = cc in
    sym (first_onset p a) ∙ ap (λ (o : Observance). o.onset.seconds) heads ∙ first_onset q b

range_told : (parts : List Part) (file : List ℕ) (start end a : ℤ) (until : Option Moment) → until ≡ None → start <ℤ end
    → calendar_observed parts a end ≡ observed (zone_state file) start end
    → range_lines parts a (end_within until end) ≡ flat_map observance_line (observed (zone_state file) start end)
range_told parts file start end a (Some m) endless less e = absurd (cc)
range_told parts file start end a None endless less e =
    let begins : a ≡ start = one_begin (calendar_state parts) (zone_state file) a start end end e in
    let yes : int_lt a end ≡ true = rw begins (grind (arith, ints)) in
    rw yes (ap (flat_map observance_line) e)

told_of : (file : List ℕ) (calendar : Calendar) (start end : ℤ) (told : List ℕ) → calendar.until ≡ None → IsRange start end
    → ((first a b : ℤ) → IsFirstOnset calendar.parts first → IsRange a b
    → calendar_observed calendar.parts (int_max a first) b ≡ observed (zone_state file) a b)
    → CalendarTells calendar start end told → told ≡ flat_map observance_line (observed (zone_state file) start end)
told_of file calendar start end told endless range tells h =
    h.lines_are
    ∙ range_told calendar.parts file start end (int_max start h.first) calendar.until endless range.1 (tells h.first start end h.first_is range)

-- a calendar that is kept of a name tells what the file does
zone_lines : (files : List ZoneFile) (start end : ℤ) (zone : ListZone) (c : ContentData) (lines : List ℕ) → IsRange start end → zone.tzid ≡ c.tzid
    → reading.KeepsCalendarText files c.tzid c.file → ZoneTells files start end zone lines → lines ≡ lines_of_zone start end c
zone_lines files start end zone c lines range same keeps tells =
    let is = keeps.is_calendar in
    let kept : file_bytes files c.tzid ≡ Some keeps.text = ap (option_map bytes_of) keeps.kept in
    let text : tells.keeps.text ≡ keeps.text = same_text tells.keeps.text keeps.text (sym tells.keeps.kept ∙ ap (file_bytes files) same ∙ kept) in
    let one : tells.keeps.calendar ≡ is.calendar =
    same_calendar tells.keeps.calendar is.calendar (calendar_in keeps.text) (ap calendar_in (sym text) ∙ tells.keeps.reads) is.reads in
    let told : CalendarTells is.calendar start end tells.told = subst (λ (x : Calendar). CalendarTells x start end tells.told) one tells.tells in
    tells.lines_are
    ∙ ap (λ (t : List ℕ). zone_line t ++ tells.told) same
    ∙ ap (λ (l : List ℕ). zone_line c.tzid ++ l) (told_of c.file is.calendar start end tells.told is.endless range is.tells told)

-- ---- the lines of zones

-- a list that is two lists is made of two
record Parts {X Y : Type 0} (g : X → Y) (xs : List X) (ys zs : List Y) : Type 0 where
  first : List X
  rest : List X
  is : xs ≡ first ++ rest
  first_is : ys ≡ map g first
  rest_is : zs ≡ map g rest

parts_of : {X Y : Type 0} (g : X → Y) (xs : List X) (ys zs : List Y) → ys ++ zs ≡ map g xs → Parts g xs ys zs
parts_of g xs [] zs e = record { first = []; rest = xs; is = refl; first_is = refl; rest_is = e }
parts_of g [] (y ∷ ys) zs e = absurd (cc)
parts_of g (x ∷ xs) (y ∷ ys) zs e =
    let head : y ≡ g x = cc in
    let tail : ys ++ zs ≡ map g xs = cc in
    let k = parts_of g xs ys zs tail in
    record {
      first = x ∷ k.first;
      rest = k.rest;
      is = ap (λ l. x ∷ l) k.is;
      first_is = ap (λ z. z ∷ ys) head ∙ ap (λ l. g x ∷ l) k.first_is;
      rest_is = k.rest_is;
    }

-- what holds of the items of two lists holds of those of each
each_of : {X : Type 0} (P : X → Type 0) (xs ys : List X) → AllByRecursion P (xs ++ ys) → AllByRecursion P xs × AllByRecursion P ys
each_of P [] ys h = (tt, h)
each_of P (x ∷ xs) ys h = let rest = each_of P xs ys h.1 in ((h.0, rest.0), rest.1)

abbrev content_name : ContentData → List ℕ
content_name c = c.tzid

module _ (s : MirrorState) (start end : ℤ) where
  -- what is told of a zone of this name are its lines
  abbrev TellsOf : ContentData → Type 0
  TellsOf c = (zone : ListZone) (lines : List ℕ) → zone.tzid ≡ c.tzid → ZoneTells s.files start end zone lines → lines ≡ lines_of_zone start end c

  last_lines : (zone : ListZone) (lines : List ℕ) (cs : List ContentData) → zone.tzid ∷ [] ≡ map content_name cs → AllByRecursion TellsOf cs
      → ZoneTells s.files start end zone lines → lines ≡ lines_of_zones start end cs
  last_lines zone lines [] is each tells = absurd (cc)
  last_lines zone lines (c ∷ []) is each tells =
      let same : zone.tzid ≡ c.tzid = cc in
      each.0 zone lines same tells ∙ sym (append-nil (lines_of_zone start end c))
  last_lines zone lines (c ∷ d ∷ ds) is each tells = absurd (cc)

  zones_lines : (zones : List ListZone) (lines : List ℕ) (cs : List ContentData) → ZonesTell s.files start end zones lines
      → map entry_name zones ≡ map content_name cs → AllByRecursion TellsOf cs → lines ≡ lines_of_zones start end cs
  zones_lines zones lines [] none is each = refl
  zones_lines zones lines (c ∷ cs) none is each = absurd (cc)
  zones_lines zones lines cs (more front zone before line tell tells) is each =
      let k = parts_of content_name cs (map entry_name front) (zone.tzid ∷ []) (sym (map-append entry_name front (zone ∷ [])) ∙ is) in
      let both = each_of TellsOf k.first k.rest (subst (λ l. AllByRecursion TellsOf l) k.is each) in
      ap (λ l. l ++ line) (zones_lines front before k.first tell k.first_is both.0)
      ∙ ap (λ l. lines_of_zones start end k.first ++ l) (last_lines zone line k.rest k.rest_is both.1 tells)
      ∙ sym (flat_map-append (lines_of_zone start end) k.first k.rest)
      ∙ ap (lines_of_zones start end) (sym k.is)

  first_printed : (zones rest : List ListZone) (lines : List ℕ) (cs : List ContentData) (old new : SinkView) (how : Written) → s.entries ≡ zones ++ rest
      → map entry_name s.entries ≡ map content_name cs → AllByRecursion TellsOf cs → ZonesTell s.files start end zones lines → WritesAll old new lines how
      → PrintsFirst cs start end old new how
  first_printed zones rest lines cs old new how parts is each tell writes =
      let k = parts_of content_name cs (map entry_name zones) (map entry_name rest)
      (sym (map-append entry_name zones rest) ∙ ap (λ (l : List ListZone). map entry_name l) (sym parts) ∙ is) in
      let both = each_of TellsOf k.first k.rest (subst (λ l. AllByRecursion TellsOf l) k.is each) in
      record {
        first = k.first;
        rest = k.rest;
        parts = k.is;
        writes = subst (λ (l : List ℕ). WritesAll old new l how) (zones_lines zones lines k.first tell k.first_is both.0) writes;
      }

  zones_printed : (cs : List ContentData) (old new : SinkView) (is : Status) → map entry_name s.entries ≡ map content_name cs → AllByRecursion TellsOf cs
      → PrintsCalendars s start end old new is → PrintsZones cs start end old new is
  zones_printed cs old new is known each (all lines rising tell writes) =
      subst (λ (l : List ℕ). WritesAll old new l written.Whole) (zones_lines s.entries lines cs tell known each) writes
  zones_printed cs old new is known each (cut zones rest lines parts tell writes) =
      first_printed zones rest lines cs old new written.Cut parts known each tell writes
  zones_printed cs old new is known each (part zones rest lines parts tell writes) =
      first_printed zones rest lines cs old new written.Whole parts known each tell writes

-- ---- the zones of a release

not_same : (x y : List ℕ) → is_before x y ≡ true → bytes_eq y x ≡ false
not_same x y h = by (bytes_eq y x) refl
  where
    by : (b : Bool) → bytes_eq y x ≡ b → bytes_eq y x ≡ false
    by false e = e
    by true e =
        let same : y ≡ x = bytes_same y x e in
        let itself : is_before x x ≡ true = subst (λ z. is_before x z ≡ true) same h in
        let other = not_before_itself x x itself in
        absurd (cc)

-- zones that come later are found behind the first
later_found : (c : ContentData) (cs ds : List ContentData) → AllByRecursion (λ y. is_before c.tzid y ≡ true) (map content_name ds)
    → AllByRecursion (λ d. zone_at cs d.tzid ≡ Some d) ds → AllByRecursion (λ d. zone_at (c ∷ cs) d.tzid ≡ Some d) ds
later_found c cs [] before found = tt
later_found c cs (d ∷ ds) before found =
    (ap (λ b. cond b (Some c) (zone_at cs d.tzid)) (not_same c.tzid d.tzid before.0) ∙ found.0, later_found c cs ds before.1 found.1)

-- of zones that rise by identifier each is the one with its own
each_found : (cs : List ContentData) → IsRising (map content_name cs) → AllByRecursion (λ c. zone_at cs c.tzid ≡ Some c) cs
each_found [] rising = tt
each_found (c ∷ cs) rising =
    (ap (λ b. cond b (Some c) (zone_at cs c.tzid)) (same_bytes c.tzid), later_found c cs cs rising.0 (each_found cs rising.1))

-- the entries of a list have the names of the zones
entries_named : (G : List ReleaseData) (r : ReleaseData) (cs : List ContentData)
    → map entry_name (map list_zone (map (entry_of G r) cs)) ≡ map content_name cs
entries_named G r [] = refl
entries_named G r (c ∷ cs) = ap (λ l. c.tzid ∷ l) (entries_named G r cs)

last_named : (G : List ReleaseData) (o : Option ReleaseData) → map entry_name (map list_zone (entries_of G o)) ≡ map content_name (contents_of o)
last_named G None = refl
last_named G (Some r) = entries_named G r r.contents

list_named : (G : List ReleaseData) → map entry_name (list_told G) ≡ map content_name (zones_of G)
unfolding list_told meta
list_named G = last_named G (last_release G)

last_found : (G : List ReleaseData) (o : Option ReleaseData) → IsHistory IsSound G → last_release G ≡ o
    → AllByRecursion (λ c. zone_at (contents_of o) c.tzid ≡ Some c) (contents_of o)
last_found G None history is = tt
last_found G (Some r) history is = each_found r.contents ((last_of IsSound G r history is).release.in_order.contents)

module _ (laws : CalendarLaws) (start end : ℤ) (range : IsRange start end) where
  each_told : (G : List ReleaseData) (s : MirrorState) → IsHistory IsSound G → HoldsCalendars s G → (cs : List ContentData)
      → AllByRecursion (λ c. zone_at (zones_of G) c.tzid ≡ Some c) cs → AllByRecursion (TellsOf s start end) cs
  each_told G s history holds [] found = tt
  each_told G s history holds (c ∷ cs) found = (
    λ zone lines same tells. zone_lines s.files start end zone c lines range same (laws.told G s c.tzid c history holds found.0) tells,
    each_told G s history holds cs found.1,
  )

  release_printed : (G : List ReleaseData) (s : MirrorState) (old new : SinkView) (is : Status) → IsHistory IsSound G → HoldsCalendars s G
      → PrintsCalendars s start end old new is → PrintsZones (zones_of G) start end old new is
  release_printed G s old new is history holds prints =
      zones_printed s start end (zones_of G) old new is (ap (λ (l : List ListZone). map entry_name l) holds.entries ∙ list_named G)
      (each_told G s history holds (zones_of G) (last_found G (last_release G) history refl)) prints

  pub primary_printed : (host : List ℕ) (s : MirrorState) (taken untaken : List Exchange) (old new : SinkView) (is : Status)
      → CalendarSyncEnds (calendar_request_text host) empty_mirror s taken untaken (Ok tt) → PrintsCalendars s start end old new is
      → PrintsPrimary taken s start end old new is
  primary_printed host s taken untaken old new is ends prints = λ H steps w history some logs.
      let k = laws.hold H steps w host s taken untaken (Ok tt) history some logs ends refl in
      record {
        place = k.0;
        holds = k.1;
        prints = release_printed (take k.0 w.history) s old new is (k.1).history (k.1).holds prints;
      }
