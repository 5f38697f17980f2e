-- The parts of a zone can be spelled, and so the calendar of a zone spells them.
use Rattle.std.proofs.Common.{◌≡◌, ◌⊎◌, ℕ, zero, suc, ◌<◌, Bool, true, false, ◌&&◌, IsTrue, inl, inr, refl, sym, subst, ◌∙◌, arith, ℤ, pos, neg_ℤ, ◌+ℤ◌, ◌-ℤ◌, ◌*ℤ◌}
use Rattle.std.proofs.Common.{◌≤ℤ◌, ◌<ℤ◌, int_lt, unsigned_abs, Option, None, Some, List, [], ◌∷◌, ◌++◌, length, map, filter, drop, cond, slice_index_or}
use Rattle.std.specs.Int.{int_rem_euclid}
use Rattle.std.specs.List.{All, AllByRecursion, Contains, list_all}
use Rattle.std.specs.Option.{IfSome}
use Rattle.std.proofs.lemmas.Bool.{cond_both, and_from, and_parts}
use Rattle.std.proofs.lemmas.Bool.Decides.{nat_tests}
use Rattle.std.proofs.lemmas.List.Elements.{All-append}
use Rattle.std.proofs.lemmas.List.Folds.{list_all-append}
use Rattle.jiff_core.specs.Calendar.{days_from_civil, IsBetween, IsWithin}
use Rattle.jiff_core.proofs.MarchLemmas.{day_count-early}
use Rattle.jiff_core.proofs.CalendarLemmas.{days_from_civil-day_count}
use Rattle.jiff_core.proofs.SignedLemmas.{signed_arith, one_part}
use Rattle.td_civil.specs.Bounds.{HasMeaning, IsWithinBounds}
use Rattle.td_civil.specs.Calendar.{IsInYear}
use Rattle.td_civil.specs.declared.local_time.Local.{Local}
use Rattle.td_civil.specs.declared.local_time.Observance.{Observance}
use Rattle.td_civil.specs.declared.moment_type.Moment.{Moment}
use Rattle.td_civil.proofs.lemmas.Years.{year_is_long}
use Rattle.tzif_reader.specs.Cut.{lists_of}
use Rattle.posix_footer.specs.declared.rule_types.Edge.{Edge}
use Rattle.posix_footer.specs.declared.rule_types.Edge.TheVariants as edge
use Rattle.posix_footer.specs.declared.rule_types.DstRule.{DstRule}
use Rattle.posix_footer.specs.declared.rule_types.Footer.{Footer}
use Rattle.posix_footer.specs.Carried.{is_all_year, is_carried_rule, beyond_if_any, IsCarriedIfAny}
use Rattle.posix_footer.specs.Items.{is_designation_byte}
use Rattle.posix_footer.specs.Lawful.{IsLawfulOffset, IsLawfulRule, IsLawfulIfAny, IsLawful}
use Rattle.posix_footer.specs.Onset.{onset_of}
use Rattle.zone_meaning.specs.Faults.{zone_fault}
use Rattle.zone_meaning.specs.Names.{is_printable_name, rule_names, footer_names, has_printable_names}
use Rattle.zone_meaning.specs.Observed.{first_at, change_at, observed}
use Rattle.zone_meaning.specs.RangeLaws.{IsChangeBetween}
use Rattle.zone_meaning.specs.State.{zone_state, footer_meant}
use Rattle.zone_meaning.proofs.lemmas.Members.{member_first, member_later}
use Rattle.zone_meaning.proofs.lemmas.NameLemmas.{observance_name}
use Rattle.zone_meaning.proofs.lemmas.RangeLemmas.{are_observed}
use Rattle.zone_meaning.proofs.lemmas.Types.{has_types, state_offset}
use Rattle.recurrence.specs.Occurs.{FallsAt}
use Rattle.recurrence.specs.declared.part_types.Part.{Part}
use Rattle.recurrence.specs.declared.part_types.Range.{Range}
use Rattle.recurrence.specs.declared.rule_types.Rule.{Rule}
use Rattle.recurrence.proofs.lemmas.InYear.{onset_in_year}
use Rattle.recurrence.proofs.lemmas.Onsets.{keeps_onsets}
use Rattle.vtimezone.specs.CalendarText.{calendar}
use Rattle.vtimezone.specs.Grouping.{is_alike, first_ones, dates_among, part_among, grouped}
use Rattle.vtimezone.specs.PartsOf.{last_before, rule_part, part_until, rule_part_if, rule_parts, rules_if_any, rules_of, changes_end, parts_from}
use Rattle.vtimezone.specs.Ranges.{IsEndOf, end_in, seconds_if_any}
use Rattle.recurrence.specs.Spellable.{is_safe, IsSafe, IsSpellable}
use Rattle.vtimezone.specs.Spelled.{spelled}
use Rattle.vtimezone.specs.ZoneParts.{rule_year, range_parts}
use Rattle.vtimezone.proofs.Alike.{first_there}
use Rattle.vtimezone.proofs.CalendarBack.{calendar_back}
use Rattle.vtimezone.proofs.InForce.{first_not_later}
use Rattle.vtimezone.proofs.LastBefore.{lt_is}
use Rattle.vtimezone.proofs.PartsMean.{end_after, end_most, not_beyond}
use Rattle.vtimezone.proofs.lemmas.Whole.{IsLawfulAndCarried}
use Rattle.vtimezone.proofs.lemmas.ZoneRange.{zone_range, begin_most, lawful_footer}

all_none : All IsSpellable []
all_none = λ k d lt. absurd (omega arith)

all_one : (p : Part) → IsSpellable p → (k : ℕ) (d : Part) → k < 1 → IsSpellable (slice_index_or (p ∷ []) k d)
all_one p h zero d lt = h
all_one p h (suc k) d lt = absurd (omega arith)

no_dates : All (λ (m : Moment). IsWithinBounds m.seconds) []
no_dates = λ k d lt. absurd (omega arith)

-- ---- names

name_byte_safe : (b : ℕ) → is_designation_byte b ≡ true → is_safe b ≡ true
name_byte_safe b h = grind (arith, nat_tests)

bytes_safe : (bs : List ℕ) → list_all is_designation_byte bs ≡ true → IsSafe bs
bytes_safe [] h = refl
bytes_safe (b ∷ bs) h =
    let both = and_parts (is_designation_byte b) (list_all is_designation_byte bs) h in
    and_from (is_safe b) (list_all is_safe bs) (name_byte_safe b both.0) (bytes_safe bs both.1)

name_safe : (name : List ℕ) → is_printable_name name ≡ true → IsSafe name
name_safe [] h = refl
name_safe (b ∷ bs) h = bytes_safe (b ∷ bs) h

-- ---- parts of changes

-- an observance whose moment and offsets have texts
record IsTold (o : Observance) : Type 0 where
  onset : IsWithinBounds o.onset.seconds
  from : IsWithin 86399 o.from
  to : IsWithin 86399 o.to

module _ (state : ℤ → Local) (a e : ℤ) (ok : (t : ℤ) → IsLawfulOffset (state t).offset) (low : neg_ℤ (pos 5364662400) ≤ℤ a) (lt : a <ℤ e)
    (high : e ≤ℤ pos 253370764800) where
  each_told : (o : Observance) → (o ≡ first_at state a) ⊎ IsChangeBetween state a e o → IsTold o
  unfolding first_at change_at
  each_told o (inl first) =
      let within : IsWithinBounds a = (low, omega (arith, signed_arith)) in
      subst IsTold (sym first) (record { onset = within; from = ok a; to = ok a })
  each_told o (inr change) =
      let m = change.moment in
      let after = change.after in
      let before = change.before in
      let from : neg_ℤ (pos 5364662400) ≤ℤ m = omega (arith, signed_arith) in
      let most : m ≤ℤ pos 253370764800 = omega (arith, signed_arith) in
      let within : IsWithinBounds m = (from, most) in
      subst IsTold (sym change.change_is) (record { onset = within; from = ok (m -ℤ pos 1); to = ok m })

-- the onsets of changes that are kept of a list
onsets_within : (keeps : Observance → Bool) (os : List Observance) → ((o : Observance) → Contains os o → IsTold o)
    → AllByRecursion (λ m. IsWithinBounds m.seconds) (map (λ (o : Observance). o.onset) (filter keeps os))
onsets_within keeps [] told = tt
onsets_within keeps (o ∷ os) told =
    let rest = onsets_within keeps os (λ x later. told x (member_later o x os later)) in
    elim (keeps o) as (λ b. AllByRecursion (λ m. IsWithinBounds m.seconds) (map (λ (p : Observance). p.onset) (cond b (o ∷ filter keeps os) (filter keeps os)))) [
      | true ↦ ((told o (member_first o os)).onset, rest)
      | false ↦ rest
    ]

but_first : (ms : List Moment) → AllByRecursion (λ m. IsWithinBounds m.seconds) ms → AllByRecursion (λ m. IsWithinBounds m.seconds) (drop 1 ms)
but_first [] h = tt
but_first (m ∷ ms) h = h.1

within_at : (ms : List Moment) → AllByRecursion (λ m. IsWithinBounds m.seconds) ms → (k : ℕ) (d : Moment) → k < length ms
    → IsWithinBounds (slice_index_or ms k d).seconds
within_at [] h k d lt = absurd (omega arith)
within_at (m ∷ ms) h zero d lt = h.0
within_at (m ∷ ms) h (suc k) d lt = within_at ms h.1 k d (omega arith)

all_within : (ms : List Moment) → AllByRecursion (λ m. IsWithinBounds m.seconds) ms → All (λ m. IsWithinBounds m.seconds) ms
all_within ms h = λ k d lt. within_at ms h k d lt

dates_within : (os : List Observance) (f : Observance) → ((o : Observance) → Contains os o → IsTold o)
    → All (λ m. IsWithinBounds m.seconds) (dates_among os f)
dates_within os f told =
    all_within (dates_among os f)
    (but_first (map (λ (o : Observance). o.onset) (filter (is_alike f) os)) (onsets_within (is_alike f) os told))

group_spellable : (os : List Observance) (f : Observance) → ((o : Observance) → Contains os o → IsTold o) → IsTold f → is_printable_name f.name ≡ true
    → IsSpellable (part_among os f)
group_spellable os f each told name = record {
  writable = record { start = told.onset; from = told.from; to = told.to; rule = tt; until = tt; dates = dates_within os f each };
  name = name_safe f.name name;
  time = refl;
}

groups_spellable : (os fs : List Observance) → ((o : Observance) → Contains os o → IsTold o)
    → ((o : Observance) → Contains os o → is_printable_name o.name ≡ true) → ((f : Observance) → Contains fs f → Contains os f)
    → All IsSpellable (map (part_among os) fs)
groups_spellable os [] told named inside = all_none
groups_spellable os (f ∷ fs) told named inside =
    let there = inside f (member_first f fs) in
    All-append IsSpellable (part_among os f ∷ []) (map (part_among os) fs)
    (all_one (part_among os f) (group_spellable os f told (told f there) (named f there)))
    (groups_spellable os fs told named (λ g later. inside g (member_later f g fs later)))

grouped_spellable : (os : List Observance) → ((o : Observance) → Contains os o → IsTold o)
    → ((o : Observance) → Contains os o → is_printable_name o.name ≡ true) → All IsSpellable (grouped os)
unfolding grouped
grouped_spellable os told named = groups_spellable os (first_ones os) told named (first_there os)

-- ---- parts with rules

time_left : (rule : Rule) (offset y onset : ℤ) → rule.second < 86400 → FallsAt rule offset y onset
    → pos rule.second ≡ int_rem_euclid (onset +ℤ offset) (pos 86400)
time_left rule offset y onset below falls = omega (arith, signed_arith, falls.moment_is)

-- the moments of the years that have a meaning
year_1800 : days_from_civil (pos 1800) 1 1 ≡ neg_ℤ (pos 62091)
year_1800 = omega (arith, signed_arith, days_from_civil-day_count, day_count-early (pos 1800) 11799 1 1 refl (omega arith) (omega arith) (omega arith))

within_year : (y m : ℤ) → IsBetween (pos 1801) (pos 9998) y → IsInYear y m → IsWithinBounds m
within_year y m range inside =
    let long = year_is_long (pos 1800) y (omega (arith, signed_arith), omega (arith, signed_arith)) (omega (arith, signed_arith)) in
    let begin : neg_ℤ (pos 5364662400) ≤ℤ m = let from = inside.0 in omega (arith, signed_arith, long, year_1800) in
    let end : (days_from_civil (y +ℤ pos 1) 1 1 *ℤ pos 86400) ≤ℤ pos 253370764800 =
    begin_most (y +ℤ pos 1) (omega (arith, signed_arith)) (omega (arith, signed_arith)) in
    let most : m ≤ℤ pos 253370764800 = let before = inside.1 in omega (arith, signed_arith, end) in
    (begin, most)

module _ (std : Local) (rule : DstRule) (y0 : ℤ) (h : IsLawfulRule std.offset rule) (carried : is_carried_rule rule ≡ true)
    (year0 : IsBetween (pos 1801) (pos 9998) y0) (std_name : IsSafe std.name) (dst_name : IsSafe rule.dst.name) where
  onset_within : (at : Edge) → IsWithinBounds (onset_of rule std.offset y0 at)
  onset_within at =
      within_year y0 (onset_of rule std.offset y0 at) year0
      (onset_in_year rule std.offset y0 at h (omega (arith, signed_arith), omega (arith, signed_arith)) carried)

  rule_spellable : (at : Edge) (until : Option Moment) → IfSome until (λ m. IsWithinBounds m.seconds) → IsSpellable (rule_part std rule y0 at until)
  unfolding rule_part
  rule_spellable edge.Start until within =
      let rules = keeps_onsets rule std.offset h carried in
      let year = rules.each_year y0 (omega (arith, signed_arith), omega (arith, signed_arith)) in
      record {
        writable = record {
          start = onset_within edge.Start;
          from = h.offset;
          to = h.daylight_offset;
          rule = rules.start_valid.form;
          until = within;
          dates = no_dates;
        };
        name = dst_name;
        time = time_left _ _ y0 _ rules.start_valid.second year.start_falls;
      }
  rule_spellable edge.End until within =
      let rules = keeps_onsets rule std.offset h carried in
      let year = rules.each_year y0 (omega (arith, signed_arith), omega (arith, signed_arith)) in
      record {
        writable = record {
          start = onset_within edge.End;
          from = h.daylight_offset;
          to = h.offset;
          rule = rules.end_valid.form;
          until = within;
          dates = no_dates;
        };
        name = std_name;
        time = time_left _ _ y0 _ rules.end_valid.second year.end_falls;
      }

  -- the last onset lies between the first and the end
  last_within : (at : Edge) (b : ℤ) (n : ℕ) (u : Moment) → (y0 +ℤ pos n) ≤ℤ pos 9999 → last_before rule std.offset at y0 b n ≡ Some u
      → (onset_of rule std.offset y0 at ≤ℤ u.seconds) × (u.seconds <ℤ b)
  unfolding last_before
  last_within at b zero u high e = absurd (cc)
  last_within at b (suc n) u high e =
      let o = onset_of rule std.offset (y0 +ℤ pos n) at in
      let Says : Option Moment → Type 0 = λ r. r ≡ Some u → (onset_of rule std.offset y0 at ≤ℤ u.seconds) × (u.seconds <ℤ b) in
      cond_both (int_lt o b) (Some (record { seconds = o })) (last_before rule std.offset at y0 b n) Says
      (λ lt is.
      let same : record { seconds = o } ≡ u = cc in
      let Between : Moment → Type 0 = λ m. (onset_of rule std.offset y0 at ≤ℤ m.seconds) × (m.seconds <ℤ b) in
      let rises = first_not_later rule std.offset y0 (y0 +ℤ pos n) at h (omega (arith, signed_arith), omega (arith, signed_arith))
      (omega (arith, signed_arith), omega (arith, signed_arith)) (omega (arith, signed_arith)) in
      subst Between same (rises, lt_is o b lt))
      (λ ge is. last_within at b n u (omega (arith, signed_arith)) is) e

  until_spellable : (at : Edge) (b : ℤ) (o : Option Moment) → b ≤ℤ pos 253370764800 → last_before rule std.offset at y0 b (unsigned_abs (pos 9999 -ℤ y0)) ≡ o
      → All IsSpellable (part_until std rule y0 at o)
  until_spellable at b None most e = all_none
  until_spellable at b (Some u) most e =
      let range = year0 in
      let count : (y0 +ℤ pos (unsigned_abs (pos 9999 -ℤ y0))) ≤ℤ pos 9999 = omega (arith, signed_arith, one_part (pos 9999 -ℤ y0)) in
      let between = last_within at b (unsigned_abs (pos 9999 -ℤ y0)) u count e in
      let first : neg_ℤ (pos 5364662400) ≤ℤ onset_of rule std.offset y0 at = (onset_within at).0 in
      let low : neg_ℤ (pos 5364662400) ≤ℤ u.seconds = omega (arith, signed_arith, between) in
      let high : u.seconds ≤ℤ pos 253370764800 = omega (arith, signed_arith, between) in
      all_one (rule_part std rule y0 at (Some u)) (rule_spellable at (Some u) (low, high))

  if_spellable : (a : ℤ) (b : Option ℤ) (at : Edge) → IsEndOf a b → All IsSpellable (rule_part_if std rule y0 b at)
  if_spellable a None at end = all_one (rule_part std rule y0 at None) (rule_spellable at None tt)
  if_spellable a (Some b) at end =
      let most : b ≤ℤ pos 253370764800 = end.1 in
      until_spellable at b (last_before rule std.offset at y0 b (unsigned_abs (pos 9999 -ℤ y0))) most refl

  rule_parts_spellable : (a : ℤ) (b : Option ℤ) → IsEndOf a b → All IsSpellable (rule_parts std rule y0 b)
  unfolding rule_parts
  rule_parts_spellable a b end =
      let xs = rule_part_if std rule y0 b edge.Start in
      let ys = rule_part_if std rule y0 b edge.End in
      cond_both (int_lt (onset_of rule std.offset y0 edge.Start) (onset_of rule std.offset y0 edge.End)) (xs ++ ys) (ys ++ xs) (All IsSpellable)
      (λ lt. All-append IsSpellable xs ys (if_spellable a b edge.Start end) (if_spellable a b edge.End end))
      (λ ge. All-append IsSpellable ys xs (if_spellable a b edge.End end) (if_spellable a b edge.Start end))

if_any_spellable : (std : Local) (dst : Option DstRule) (y0 a : ℤ) (b : Option ℤ) → IsLawfulIfAny std.offset dst → beyond_if_any std.offset dst ≡ false
    → IsBetween (pos 1801) (pos 9999) y0 → IsEndOf a b → list_all is_printable_name (std.name ∷ rule_names dst) ≡ true
    → All IsSpellable (rules_if_any std dst y0 b)
if_any_spellable std None y0 a b h e year0 end names = all_none
if_any_spellable std (Some rule) y0 a b h e year0 end names =
    let both = and_parts (is_printable_name std.name) (is_printable_name rule.dst.name && true) names in
    let last = and_parts (is_printable_name rule.dst.name) true both.1 in
    cond_both (is_all_year std.offset rule) [] _ (All IsSpellable)
    (λ all. all_none)
    (λ some. cond_both (int_lt y0 (pos 9999)) (rule_parts std rule y0 b) [] (All IsSpellable)
    (λ lt. rule_parts_spellable std rule y0 h (not_beyond (is_all_year std.offset rule) (is_carried_rule rule) e some)
    (omega (arith, signed_arith), omega (arith, signed_arith)) (name_safe std.name both.0) (name_safe rule.dst.name last.0) a b end)
    (λ ge. all_none))

rules_spellable : (footer : Option Footer) (y0 a : ℤ) (b : Option ℤ) → IsLawfulAndCarried footer → IsBetween (pos 1801) (pos 9999) y0 → IsEndOf a b
    → list_all is_printable_name (footer_names footer) ≡ true → All IsSpellable (rules_of footer y0 b)
rules_spellable None y0 a b h year0 end names = all_none
rules_spellable (Some footer) y0 a b h year0 end names = if_any_spellable footer.std footer.dst y0 a b h.0.rule h.1 year0 end names

-- ---- the parts of a zone

lawful_if_some : (footer : Option Footer) → IsLawfulAndCarried footer → IfSome footer IsLawful
lawful_if_some None h = tt
lawful_if_some (Some footer) h = h.0

zone_offsets : (file : List ℕ) (t : ℤ) → zone_fault file ≡ None → IsLawfulAndCarried (footer_meant (lists_of file).footer)
    → IsLawfulOffset (zone_state file t).offset
unfolding zone_state
zone_offsets file t h lawful =
    state_offset (lists_of file) (footer_meant (lists_of file).footer) t (has_types file h) (lawful_if_some (footer_meant (lists_of file).footer) lawful)

names_of_footer : (file : List ℕ) → has_printable_names file ≡ true → list_all is_printable_name (footer_names (footer_meant (lists_of file).footer)) ≡ true
unfolding has_printable_names
names_of_footer file names =
    let kinds = map (λ (kind : Local). kind.name) (lists_of file).kinds in
    let last = footer_names (footer_meant (lists_of file).footer) in
    (and_parts (list_all is_printable_name kinds) (list_all is_printable_name last) (sym (list_all-append is_printable_name kinds last) ∙ names)).1

pub parts_spellable : (file : List ℕ) (range : Range) → zone_fault file ≡ None → has_printable_names file ≡ true
    → IsCarriedIfAny (footer_meant (lists_of file).footer) → HasMeaning range.from.seconds → IsEndOf range.from.seconds (end_in range)
    → All IsSpellable (range_parts file range)
unfolding range_parts parts_from
parts_spellable file range h names carried meaning end =
    let a = range.from.seconds in
    let b = end_in range in
    let lawful = lawful_footer (lists_of file).footer carried in
    let is = zone_range file a b h meaning end in
    let year0 = is.year0 in
    let turn = days_from_civil (rule_year file a) 1 1 *ℤ pos 86400 in
    let e = changes_end turn b in
    let from = is.from in
    let before = is.turn in
    let after : a <ℤ e = end_after turn a b (omega (arith, signed_arith)) end in
    let most : e ≤ℤ turn = end_most turn b in
    let meant : turn ≤ℤ pos 253370764800 = begin_most (rule_year file a) year0.0 year0.1 in
    let low : neg_ℤ (pos 5364662400) ≤ℤ a = meaning.0 in
    let os = observed (zone_state file) a e in
    let are = are_observed (zone_state file) a e after in
    All-append IsSpellable (grouped os) (rules_of (footer_meant (lists_of file).footer) (rule_year file a) b)
    (grouped_spellable os
    (λ o there. each_told (zone_state file) a e (λ t. zone_offsets file t h lawful) low after (omega (arith, signed_arith, most, meant)) o (are.each o there))
    (λ o there. observance_name file a e o h names after there))
    (rules_spellable (footer_meant (lists_of file).footer) (rule_year file a) a b lawful year0 end (names_of_footer file names))

-- the state at the start has a part
pub some_parts : (file : List ℕ) (range : Range) → 0 < length (range_parts file range)
unfolding range_parts parts_from grouped first_ones observed
some_parts file range = omega arith

pub end_within : (range : Range) → HasMeaning range.from.seconds → IsEndOf range.from.seconds (end_in range)
    → IfSome range.until (λ m. IsWithinBounds m.seconds)
end_within range meaning end = within range.from.seconds range.until meaning end
  where
    within : (a : ℤ) (until : Option Moment) → HasMeaning a → IsEndOf a (seconds_if_any until) → IfSome until (λ m. IsWithinBounds m.seconds)
    within a None meaning end = tt
    within a (Some m) meaning end =
        let low : neg_ℤ (pos 5364662400) ≤ℤ a = meaning.0 in
        let after : a <ℤ m.seconds = end.0 in
        let from : neg_ℤ (pos 5364662400) ≤ℤ m.seconds = omega (arith, signed_arith) in
        let most : m.seconds ≤ℤ pos 253370764800 = end.1 in
        (from, most)

pub zone_spelled : (file : List ℕ) (range : Range) (tzid : List ℕ) (alias_of : Option (List ℕ)) → zone_fault file ≡ None → IsTrue (has_printable_names file)
    → IsCarriedIfAny (footer_meant (lists_of file).footer) → HasMeaning range.from.seconds → IsEndOf range.from.seconds (end_in range)
    → IsSafe tzid → IfSome alias_of IsSafe
    → spelled (calendar tzid alias_of (range_parts file range) range.until)
    ≡ Some (record { tzid = tzid; alias_of = alias_of; until = range.until; parts = range_parts file range })
zone_spelled file range tzid alias_of h names carried meaning end id also =
    calendar_back tzid alias_of (range_parts file range) range.until id also (end_within range meaning end) (some_parts file range)
    (parts_spellable file range h names carried meaning end)
