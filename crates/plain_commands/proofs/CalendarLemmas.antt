-- What the calendars that a mirror keeps tell of a range, a zone after another.
use Rattle.std.proofs.Common.{◌≡◌, ℕ, ◌<◌, ◌+◌, List, [], ◌∷◌, ◌++◌, length, take, drop, get_or, map, inl, inr}
use Rattle.std.proofs.Common.{Some, Result, Ok, Err, sym, ap, subst, ◌∙◌, arith}
use Rattle.std.specs.Prelude.{ℤ, ◌≤ℤ◌, ◌<ℤ◌}
use Rattle.std.specs.Int.{int_max}
use Rattle.std.specs.List.{AllByRecursion, Contains}
use Rattle.std.proofs.lemmas.List.{take-append-drop}
use Rattle.td_base.specs.Transfer.{WritesAll}
use Rattle.td_base.specs.Views.{SinkView}
use Rattle.td_base.specs.declared.transfer.Written.{Written}
use Rattle.td_base.specs.declared.transfer.Written.TheVariants as written
use Rattle.jiff_core.proofs.SignedLemmas.{signed_arith}
use Rattle.td_civil.specs.Bounds.{IsWithinBounds}
use Rattle.td_civil.specs.declared.local_time.Local.{Local}
use Rattle.td_civil.specs.declared.local_time.Observance.{Observance}
use Rattle.td_civil.specs.declared.moment_type.TheConstants.{LO, HI}
use Rattle.catalogue.specs.Order.{IsRising}
use Rattle.json_forms.specs.declared.zone_list.ListZone.{ListZone}
use Rattle.sync_core.specs.Mirrors.{MirrorState, ZoneFile, entry_name}
use Rattle.sync_core.specs.Published.{file_bytes}
use Rattle.zone_meaning.specs.Observed.{change_at, first_at, observed}
use Rattle.zone_meaning.proofs.lemmas.Members.{member_first, member_later}
use Rattle.zone_meaning.proofs.lemmas.RangeLemmas.{are_observed, change_onset, first_onset}
use Rattle.recurrence.specs.declared.part_types.Part.{Part}
use Rattle.vtimezone_reader.specs.Observing.{IsFirstOnset, calendar_observed}
use Rattle.vtimezone_reader.specs.Onsets.{calendar_state}
use Rattle.vtimezone_reader.specs.ReadLines.{calendar_in}
use Rattle.vtimezone_reader.specs.declared.calendar_fault.CalendarFault.{CalendarFault}
use Rattle.vtimezone_reader.specs.declared.calendar_type.Calendar.{Calendar}
use Rattle.run_ends.specs.Running.CalendarMirroring.{end_within, range_lines, zone_line}
use Rattle.run_ends.specs.Running.CalendarMirroring.{KeepsCalendar, PrintsCalendars, ZoneTells, ZonesTell, all, cut, more, none, part}
use Rattle.plain_commands.specs.CalendarSteps.{AppendsCalendar, PrintedTo, PrintsZone, ZonePrinted}
use Rattle.run_ends.specs.declared.status.Status.{Status}
use Rattle.run_ends.specs.declared.status.Status.TheVariants as status
use Rattle.run_ends.proofs.lemmas.WrittenTexts.{cut_more, written_more, written_nothing}
use Rattle.run_ends.proofs.lemmas.Installing.{taken_more}

-- ---- moments of a range

all_of : {X : Type 0} (P : X → Type 0) (xs : List X) → ((x : X) → Contains xs x → P x) → AllByRecursion P xs
all_of P [] each = tt
all_of P (x ∷ xs) each = (each x (member_first x xs), all_of P xs (λ y there. each y (member_later x y xs there)))

within : (o other : Observance) (t : ℤ) → o ≡ other → other.onset.seconds ≡ t → IsWithinBounds t → IsWithinBounds o.onset.seconds
within o other t same onset meant = subst (λ (x : Observance). IsWithinBounds x.onset.seconds) (sym same) (subst IsWithinBounds (sym onset) meant)

-- each observance of a range that has a meaning has an onset that has a text
pub observances_meant : (state : ℤ → Local) (a b : ℤ) → LO ≤ℤ a → a <ℤ b → b ≤ℤ HI → AllByRecursion (λ o. IsWithinBounds o.onset.seconds) (observed state a b)
observances_meant state a b low lt high = all_of (λ o. IsWithinBounds o.onset.seconds) (observed state a b) (λ o there.
    elim ((are_observed state a b lt).each o there) [
      | inl first ↦ within o (first_at state a) a first (first_onset state a) (omega (arith, signed_arith), omega (arith, signed_arith))
      | inr change ↦ within o (change_at state change.moment) change.moment change.change_is (change_onset state change.moment)
          (omega (arith, signed_arith, change.after), omega (arith, signed_arith, change.before))
    ])

pub observances_told : (parts : List Part) (a b : ℤ) (list told : List Observance) → LO ≤ℤ a → a <ℤ b → b ≤ℤ HI → list ≡ calendar_observed parts a b
    → told ≡ list → AllByRecursion (λ o. IsWithinBounds o.onset.seconds) told
observances_told parts a b list told low lt high is same =
    subst (λ (os : List Observance). AllByRecursion (λ o. IsWithinBounds o.onset.seconds) os) (sym (same ∙ is))
    (observances_meant (calendar_state parts) a b low lt high)

-- ---- the lines of a zone

pub calendar_told : (calendar : Calendar) (start end a b first : ℤ) (old new : List ℕ) → IsFirstOnset calendar.parts first → a ≡ int_max start first
    → b ≡ end_within calendar.until end → new ≡ old ++ range_lines calendar.parts a b → AppendsCalendar calendar start end old new
calendar_told calendar start end a b first old new least from to is = record {
  told = range_lines calendar.parts a b;
  tells = record {
    first = first;
    first_is = least;
    lines_are = ap (λ x. range_lines calendar.parts x b) from ∙ ap (λ y. range_lines calendar.parts (int_max start first) y) to;
  };
  new_is = is;
}

-- the calendar that is kept of a name is one alone
pub same_text : (a b : List ℕ) → Some a ≡ Some b → a ≡ b
same_text a b e = cc

pub same_calendar : (a b : Calendar) (r : Result Calendar CalendarFault) → r ≡ Ok a → r ≡ Ok b → a ≡ b
same_calendar a b r e k = cc

named_as : (files : List ZoneFile) (tzid text : List ℕ) (calendar : Calendar) → KeepsCalendar files tzid → Some text ≡ file_bytes files tzid
    → calendar_in text ≡ Ok calendar → calendar.tzid ≡ tzid
named_as files tzid text calendar keeps kept reads =
    let same : text ≡ keeps.text = same_text text keeps.text (kept ∙ keeps.kept) in
    let one : calendar ≡ keeps.calendar = same_calendar calendar keeps.calendar (calendar_in text) reads (ap calendar_in same ∙ keeps.reads) in
    ap (λ (c : Calendar). c.tzid) one ∙ keeps.named

pub zone_told : (files : List ZoneFile) (zone : ListZone) (text : List ℕ) (calendar : Calendar) (start end : ℤ)
    (old middle new : List ℕ) → KeepsCalendar files zone.tzid → Some text ≡ file_bytes files zone.tzid → calendar_in text ≡ Ok calendar
    → old ≡ [] → middle ≡ old ++ zone_line zone.tzid → AppendsCalendar calendar start end middle new → ZoneTells files start end zone new
zone_told files zone text calendar start end old middle new keeps kept reads empty line h = record {
  keeps = record { text = text; kept = sym kept; calendar = calendar; reads = reads; named = named_as files zone.tzid text calendar keeps kept reads };
  told = h.told;
  tells = h.tells;
  lines_are = h.new_is ∙ ap (λ (l : List ℕ). l ++ h.told) (line ∙ ap (λ (l : List ℕ). l ++ zone_line zone.tzid) empty);
}

pub zone_printed : (files : List ZoneFile) (start end : ℤ) (zone : ListZone) (text written_text : List ℕ) (old new : SinkView) (how : Written)
    → ZoneTells files start end zone text → written_text ≡ text → WritesAll old new written_text how → ZonePrinted files start end zone old new how
zone_printed files start end zone text written_text old new how tells same writes = record {
  lines = text;
  tells = tells;
  writes = subst (λ (t : List ℕ). WritesAll old new t how) same writes;
}

-- ---- zones that are printed

module _ (s : MirrorState) (start end : ℤ) where
  pub printed_none : (old : SinkView) → PrintedTo s.files start end [] old old
  printed_none old = record { lines = []; tell = none; writes = written_nothing old }

  pub printed_more : (zones : List ListZone) (i : ℕ) (zone : ListZone) (old middle new : SinkView) → i < length zones → zone ≡ get_or zones i zone
      → PrintedTo s.files start end (take i zones) old middle → ZonePrinted s.files start end zone middle new written.Whole
      → PrintedTo s.files start end (take (i + 1) zones) old new
  printed_more zones i zone old middle new less is so h = record {
    lines = so.lines ++ h.lines;
    tell = subst (λ (front : List ListZone). ZonesTell s.files start end front (so.lines ++ h.lines)) (sym (taken_more zones i zone less is))
        (more (take i zones) zone so.lines h.lines so.tell h.tells);
    writes = written_more old middle new so.lines h.lines so.writes h.writes;
  }

  pub printed_all : (zones row : List ListZone) (old new : SinkView) → zones ≡ s.entries → row ≡ zones → IsRising (map entry_name zones)
      → PrintedTo s.files start end row old new → PrintsCalendars s start end old new status.Done
  printed_all zones row old new known same rising so =
      all so.lines (subst (λ (zs : List ListZone). IsRising (map entry_name zs)) known rising)
      (subst (λ (zs : List ListZone). ZonesTell s.files start end zs so.lines) known
      (subst (λ (zs : List ListZone). ZonesTell s.files start end zs so.lines) same so.tell)) so.writes

  -- a zone at which the run ends
  pub printed_part : (zones : List ListZone) (i : ℕ) (zone : ListZone) (old middle new : SinkView) (is : Status) → zones ≡ s.entries → i < length zones
      → zone ≡ get_or zones i zone → PrintedTo s.files start end (take i zones) old middle → PrintsZone s.files start end zone middle new (Err is)
      → PrintsCalendars s start end old new is
  printed_part zones i zone old middle new status.NotWritten known less is so h =
      cut (take (i + 1) zones) (drop (i + 1) zones) (so.lines ++ h.lines) (sym known ∙ sym (take-append-drop (i + 1) zones))
      (subst (λ (front : List ListZone). ZonesTell s.files start end front (so.lines ++ h.lines)) (sym (taken_more zones i zone less is))
      (more (take i zones) zone so.lines h.lines so.tell h.tells))
      (cut_more old middle new so.lines h.lines so.writes h.writes)
  printed_part zones i zone old middle new status.NoMemory known less is so h =
      part (take i zones) (drop i zones) so.lines (sym known ∙ sym (take-append-drop i zones)) so.tell
      (subst (λ (v : SinkView). WritesAll old v so.lines written.Whole) (sym h) so.writes)
  printed_part zones i zone old middle new is known less item so h = absurd h
