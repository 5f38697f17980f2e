-- The parts of a zone, without an end, are read back when they are written.
use Rattle.std.proofs.Common.{◌≡◌, inl, inr, ℕ, suc, ◌-◌, ◌≤◌, Bool, true, false, not, ◌&&◌, cond, refl, sym, ap, subst}
use Rattle.std.proofs.Common.{◌∙◌, arith}
use Rattle.std.proofs.Common.{ℤ, pos, ◌+ℤ◌, ◌≤ℤ◌, ◌<ℤ◌, int_lt, Option, None, Some, List, [], ◌∷◌, ◌++◌, length, map, filter, drop}
use Rattle.std.specs.List.{All, AllByRecursion, Contains, list_all}
use Rattle.std.specs.Option.{IfSome}
use Rattle.std.specs.Prelude.{slice_index_or, slice_get}
use Rattle.std.proofs.lemmas.Bool.{cond_both, and_parts}
use Rattle.std.proofs.lemmas.Int.{by_lt_z, int_max_is}
use Rattle.std.proofs.lemmas.List.Folds.{list_all-append}
use Rattle.std.proofs.lemmas.Option.{slice_get-get_or}
use Rattle.jiff_core.specs.Calendar.{IsYear}
use Rattle.jiff_core.proofs.SignedLemmas.{signed_arith}
use Rattle.td_civil.specs.Bounds.{HasMeaning, IsWithinBounds}
use Rattle.td_civil.specs.Calendar.{stamp_of}
use Rattle.td_civil.specs.declared.moment_type.Moment.{Moment}
use Rattle.td_civil.specs.declared.moment_type.TheConstants.{LO, HI}
use Rattle.td_civil.specs.declared.local_time.Local.{Local}
use Rattle.td_civil.specs.declared.local_time.Observance.{Observance}
use Rattle.td_civil.proofs.lemmas.Shown.{shown_year, bounds_text}
use Rattle.td_civil.proofs.lemmas.Years.{year_is_long}
use Rattle.tzif_reader.specs.Cut.{lists_of}
use Rattle.tzif_reader.proofs.lemmas.Whole.{zone_file_of}
use Rattle.posix_footer.specs.Carried.{is_all_year, is_carried_rule, beyond_if_any, IsCarriedIfAny}
use Rattle.posix_footer.specs.Lawful.{IsLawfulRule, IsLawfulIfAny}
use Rattle.posix_footer.specs.Onset.{onset_of}
use Rattle.posix_footer.specs.declared.rule_types.DstRule.{DstRule}
use Rattle.posix_footer.specs.declared.rule_types.Edge.{Edge}
use Rattle.posix_footer.specs.declared.rule_types.Edge.TheVariants as edge
use Rattle.posix_footer.specs.declared.rule_types.Footer.{Footer}
use Rattle.posix_footer.proofs.lemmas.YearLemmas.{year_in_range}
use Rattle.zone_meaning.specs.FaultLemmas.{file_clear}
use Rattle.zone_meaning.specs.Faults.{zone_fault}
use Rattle.zone_meaning.specs.Names.{is_printable_name, rule_names, footer_names, has_printable_names}
use Rattle.zone_meaning.specs.Observed.{observed}
use Rattle.zone_meaning.specs.RangeLaws.{state_told}
use Rattle.zone_meaning.specs.State.{footer_meant, zone_state}
use Rattle.zone_meaning.proofs.lemmas.Members.{member_first, member_later}
use Rattle.zone_meaning.proofs.lemmas.NameLemmas.{observance_name}
use Rattle.zone_meaning.proofs.lemmas.RangeLemmas.{change_onset, change_told, first_onset, first_told, are_observed}
use Rattle.recurrence.specs.Spellable.{HasTime, IsSpellable}
use Rattle.recurrence.specs.Valid.{IsValidForm}
use Rattle.recurrence.specs.declared.part_types.Part.{Part}
use Rattle.recurrence.specs.declared.rule_types.Rule.{Rule}
use Rattle.recurrence.proofs.lemmas.AllYear.{year_9999}
use Rattle.recurrence.proofs.lemmas.InYear.{onset_in_year}
use Rattle.vtimezone.specs.Grouping.{is_alike, first_ones, part_among, grouped}
use Rattle.vtimezone.specs.PartsOf.{rule_part, rule_parts, rules_if_any, rules_of, parts_from, year_begin}
use Rattle.vtimezone.specs.ZoneParts.{latest, rule_year, range_parts}
use Rattle.vtimezone_reader.specs.PartLines.{name_in}
use Rattle.vtimezone_reader.specs.Sound.{IsMeant, HasStartTime}
use Rattle.vtimezone_reader.specs.Written.{HasLast, IsWrittenPart}
use Rattle.vtimezone_reader.proofs.lemmas.FooterNames.{HasShortNames}
use Rattle.vtimezone_reader.proofs.Tests.{lt_is}
use Rattle.vtimezone_reader.proofs.lemmas.ZoneNames.{IsShort, meant_short, zone_short, name_read}
use Rattle.vtimezone_reader.proofs.ZoneStates.{not_beyond, IsLawfulAndCarried, lawful_footer}

-- what is read back beyond what can be spelled
pub record IsKept (p : Part) : Type 0 where
  pub start : p.start.seconds <ℤ HI
  pub dates : AllByRecursion (λ d. d.seconds <ℤ HI) p.dates
  pub name : name_in p.name ≡ Some p.name
  pub until : p.until ≡ None

kept_both : (xs ys : List Part) → AllByRecursion IsKept xs → AllByRecursion IsKept ys → AllByRecursion IsKept (xs ++ ys)
kept_both [] ys a b = b
kept_both (x ∷ xs) ys a b = (a.0, kept_both xs ys a.1 b)

-- ---- years

-- the last transition of a file without fault comes before the end
last_before_end : (file : List ℕ) (ms : List Moment) (i : ℕ) (d : Moment) → zone_fault file ≡ None → (lists_of file).moments ≡ ms → suc i ≡ length ms
    → (slice_index_or ms i d).seconds <ℤ HI
last_before_end file ms i d h e long =
    let ends = (zone_file_of file (file_clear file h)).second_block_is.ends in
    let P : List Moment → Type 0 = λ l. IfSome (slice_get l (length l - 1)) (λ m. m.seconds <ℤ HI) in
    let here = subst P e ends in
    let at : length ms - 1 ≡ i = omega arith in
    let is : slice_get ms (length ms - 1) ≡ Some (slice_index_or ms i d) = ap (slice_get ms) at ∙ slice_get-get_or ms i d (omega arith) in
    subst (λ (o : Option Moment). IfSome o (λ m. m.seconds <ℤ HI)) is here

pub record IsLatest (a last : ℤ) : Type 0 where
  pub from : a ≤ℤ last
  pub meant : HasMeaning last

latest_is : (file : List ℕ) (a : ℤ) (ms : List Moment) → zone_fault file ≡ None → (lists_of file).moments ≡ ms → HasMeaning a → IsLatest a (latest a ms)
latest_is file a [] h e meaning = record { from = omega (arith, signed_arith); meant = meaning }
latest_is file a (m ∷ ms) h e meaning =
    let z = (slice_index_or (m ∷ ms) (length (m ∷ ms) - 1) (record { seconds = pos 0 })).seconds in
    let last : z <ℤ HI = last_before_end file (m ∷ ms) (length (m ∷ ms) - 1) (record { seconds = pos 0 }) h e (omega arith) in
    let low : LO ≤ℤ a = meaning.0 in
    let high : a <ℤ HI = meaning.1 in
    record {
      from = omega (arith, signed_arith, int_max_is a z);
      meant = (omega (arith, signed_arith, int_max_is a z, low), omega (arith, signed_arith, int_max_is a z, last, high));
    }

begin_by : (y : ℤ) → IsYear y → y ≤ℤ pos 9999 → year_begin y ≤ℤ HI
begin_by y year high = by_lt_z y (pos 9999)
    (λ lt. let long = year_is_long y (pos 9999) year lt in omega (arith, signed_arith, long, year_9999))
    (λ ge. let is : y ≡ pos 9999 = omega (arith, signed_arith, ge, high) in
    let P : ℤ → Type 0 = λ k. year_begin k ≤ℤ HI in
    subst P (sym is) (omega (arith, signed_arith, year_9999)))

pub record IsTurnOfYear (a y : ℤ) : Type 0 where
  pub after : a <ℤ year_begin y
  pub by : year_begin y ≤ℤ HI

turn_is : (file : List ℕ) (a : ℤ) → zone_fault file ≡ None → HasMeaning a → IsTurnOfYear a (rule_year file a)
unfolding rule_year
turn_is file a h meaning =
    let last = latest a (lists_of file).moments in
    let is = latest_is file a (lists_of file).moments h refl meaning in
    let year = pos (stamp_of last).year in
    let low : LO ≤ℤ last = is.meant.0 in
    let lt : last <ℤ HI = is.meant.1 in
    let shown = shown_year last (bounds_text last (low, omega (arith, signed_arith, lt))) in
    let range = year_in_range year last (omega (arith, signed_arith)) is.meant shown.0 shown.1 in
    let from = is.from in
    let ahead = shown.1 in
    record {
      after = omega (arith, signed_arith, from, ahead);
      by = begin_by (year +ℤ pos 1) (omega (arith, signed_arith, range), omega (arith, signed_arith, range)) (omega (arith, signed_arith, range));
    }

-- ---- the parts of changes

pub record IsToldWell (o : Observance) : Type 0 where
  pub onset : o.onset.seconds <ℤ HI
  pub name : name_in o.name ≡ Some o.name

told_short : (o : Observance) (s : Local) → state_told o ≡ s → IsShort s → length o.name ≤ 32
told_short o s told short = subst IsShort (sym told) short

told_well : (file : List ℕ) (a e : ℤ) (o : Observance) → zone_fault file ≡ None → has_printable_names file ≡ true → a <ℤ e → e ≤ℤ HI
    → Contains (observed (zone_state file) a e) o → IsToldWell o
told_well file a e o h names lt by there =
    let state : ℤ → Local = zone_state file in
    let printable = observance_name file a e o h names lt there in
    elim ((are_observed state a e lt).each o there) [
      | inl first ↦
          let onset = ap (λ (p : Observance). p.onset.seconds) first ∙ first_onset state a in
          record {
            onset = omega (arith, signed_arith, onset, lt, by);
            name = name_read o.name (told_short o (state a) (ap state_told first ∙ first_told state a) (zone_short file a h)) printable;
          }
      | inr change ↦
          let onset = ap (λ (p : Observance). p.onset.seconds) change.change_is ∙ change_onset state change.moment in
          let before = change.before in
          record {
            onset = omega (arith, signed_arith, onset, before, by);
            name = name_read o.name
                (told_short o (state change.moment) (ap state_told change.change_is ∙ change_told state change.moment) (zone_short file change.moment h))
                printable;
          }
    ]

all_members : (os : List Observance) → ((o : Observance) → Contains os o → IsToldWell o) → AllByRecursion IsToldWell os
all_members [] h = tt
all_members (o ∷ os) h = (h o (member_first o os), all_members os (λ p there. h p (member_later o p os there)))

filter_well : (keeps : Observance → Bool) (os : List Observance) → AllByRecursion IsToldWell os → AllByRecursion IsToldWell (filter keeps os)
filter_well keeps [] h = tt
filter_well keeps (o ∷ os) h =
    let rest = filter_well keeps os h.1 in
    elim (keeps o) as (λ b. AllByRecursion IsToldWell (cond b (o ∷ filter keeps os) (filter keeps os))) [
      | true ↦ (h.0, rest)
      | false ↦ rest
    ]

first_well : (os : List Observance) → AllByRecursion IsToldWell os → AllByRecursion IsToldWell (first_ones os)
unfolding first_ones
first_well [] h = tt
first_well (o ∷ os) h = (h.0, filter_well (λ p. not (is_alike o p)) (first_ones os) (first_well os h.1))

onsets_before : (os : List Observance) → AllByRecursion IsToldWell os → AllByRecursion (λ (m : Moment). m.seconds <ℤ HI) (map (λ (p : Observance). p.onset) os)
onsets_before [] h = tt
onsets_before (o ∷ os) h = (h.0.onset, onsets_before os h.1)

but_first : (ms : List Moment) → AllByRecursion (λ (m : Moment). m.seconds <ℤ HI) ms → AllByRecursion (λ (m : Moment). m.seconds <ℤ HI) (drop 1 ms)
but_first [] h = tt
but_first (m ∷ ms) h = h.1

groups_kept : (os fs : List Observance) → AllByRecursion IsToldWell os → AllByRecursion IsToldWell fs → AllByRecursion IsKept (map (part_among os) fs)
groups_kept os [] all h = tt
groups_kept os (f ∷ fs) all h = (
  record {
    start = h.0.onset;
    dates = but_first (map (λ (p : Observance). p.onset) (filter (is_alike f) os)) (onsets_before (filter (is_alike f) os) (filter_well (is_alike f) os all));
    name = h.0.name;
    until = refl;
  },
  groups_kept os fs all h.1,
)

grouped_kept : (os : List Observance) → AllByRecursion IsToldWell os → AllByRecursion IsKept (grouped os)
unfolding grouped
grouped_kept os all = groups_kept os (first_ones os) all (first_well os all)

-- ---- the parts of rules

module _ (std : Local) (rule : DstRule) (y0 : ℤ) (lawful : IsLawfulRule std.offset rule) (carried : is_carried_rule rule ≡ true) (year : IsYear y0)
    (low : y0 <ℤ pos 9999)
    (std_name : name_in std.name ≡ Some std.name) (dst_name : name_in rule.dst.name ≡ Some rule.dst.name) where
  onset_before : (at : Edge) → onset_of rule std.offset y0 at <ℤ HI
  onset_before at =
      let within = (onset_in_year rule std.offset y0 at lawful year carried).1 in
      let by = begin_by (y0 +ℤ pos 1) (omega (arith, signed_arith, year, low), omega (arith, signed_arith, year, low)) (omega (arith, signed_arith, low)) in
      omega (arith, signed_arith, within, by)

  part_kept : (at : Edge) → IsKept (rule_part std rule y0 at None)
  unfolding rule_part
  part_kept edge.Start = record { start = onset_before edge.Start; dates = tt; name = dst_name; until = refl }
  part_kept edge.End = record { start = onset_before edge.End; dates = tt; name = std_name; until = refl }

  parts_kept : AllByRecursion IsKept (rule_parts std rule y0 None)
  unfolding rule_parts
  parts_kept =
      cond_both (int_lt (onset_of rule std.offset y0 edge.Start) (onset_of rule std.offset y0 edge.End)) _ _ (AllByRecursion IsKept)
      (λ lt. (part_kept edge.Start, (part_kept edge.End, tt)))
      (λ ge. (part_kept edge.End, (part_kept edge.Start, tt)))

if_any_kept : (std : Local) (dst : Option DstRule) (n : ℕ) → IsLawfulIfAny std.offset dst → beyond_if_any std.offset dst ≡ false
    → HasShortNames (record { std = std; dst = dst }) → list_all is_printable_name (std.name ∷ rule_names dst) ≡ true
    → AllByRecursion IsKept (rules_if_any std dst (pos n +ℤ pos 1) None)
if_any_kept std None n lawful carried short names = tt
if_any_kept std (Some rule) n lawful carried short names =
    let both = and_parts (is_printable_name std.name) (is_printable_name rule.dst.name && true) names in
    let last = and_parts (is_printable_name rule.dst.name) true both.1 in
    cond_both (is_all_year std.offset rule) [] _ (AllByRecursion IsKept) (λ all. tt)
    (λ some. cond_both (int_lt (pos n +ℤ pos 1) (pos 9999)) (rule_parts std rule (pos n +ℤ pos 1) None) [] (AllByRecursion IsKept)
    (λ e. let lt : (pos n +ℤ pos 1) <ℤ pos 9999 = lt_is (pos n +ℤ pos 1) (pos 9999) e in
    parts_kept std rule (pos n +ℤ pos 1) lawful (not_beyond (is_all_year std.offset rule) (is_carried_rule rule) carried some)
    (omega (arith, signed_arith), omega (arith, signed_arith, lt)) lt (name_read std.name short.std both.0) (name_read rule.dst.name short.dst last.0))
    (λ ge. tt))

rules_kept : (footer : Option Footer) (n : ℕ) → IsLawfulAndCarried footer → IfSome footer HasShortNames
    → list_all is_printable_name (footer_names footer) ≡ true
    → AllByRecursion IsKept (rules_of footer (pos n +ℤ pos 1) None)
rules_kept None n h short names = tt
rules_kept (Some footer) n h short names = if_any_kept footer.std footer.dst n h.0.rule h.1 short names

-- ---- the parts of a zone

names_of_footer : (file : List ℕ) → has_printable_names file ≡ true → list_all is_printable_name (footer_names (footer_meant (lists_of file).footer)) ≡ true
unfolding has_printable_names
names_of_footer file names =
    let kinds = map (λ (kind : Local). kind.name) (lists_of file).kinds in
    let last = footer_names (footer_meant (lists_of file).footer) in
    (and_parts (list_all is_printable_name kinds) (list_all is_printable_name last) (sym (list_all-append is_printable_name kinds last) ∙ names)).1

zone_kept : (file : List ℕ) (from : Moment) → zone_fault file ≡ None → has_printable_names file ≡ true → IsCarriedIfAny (footer_meant (lists_of file).footer)
    → HasMeaning from.seconds → AllByRecursion IsKept (range_parts file (record { from = from; until = None }))
unfolding range_parts parts_from rule_year
zone_kept file from h names carried meaning =
    let a = from.seconds in
    let n = (stamp_of (latest a (lists_of file).moments)).year in
    let turn = turn_is file a h meaning in
    let e = year_begin (pos n +ℤ pos 1) in
    let after : a <ℤ e = turn.after in
    let by : e ≤ℤ HI = turn.by in
    let os = observed (zone_state file) a e in
    kept_both (grouped os) (rules_of (footer_meant (lists_of file).footer) (pos n +ℤ pos 1) None)
    (grouped_kept os (all_members os (λ o there. told_well file a e o h names after by there)))
    (rules_kept (footer_meant (lists_of file).footer) n (lawful_footer (lists_of file).footer carried) (meant_short (lists_of file).footer)
    (names_of_footer file names))

meant_dates : (ds : List Moment) → All (λ d. IsWithinBounds d.seconds) ds → AllByRecursion (λ (d : Moment). d.seconds <ℤ HI) ds → AllByRecursion IsMeant ds
meant_dates [] h k = tt
meant_dates (d ∷ ds) h k = (((h 0 d (omega arith)).0, k.0), meant_dates ds (λ i e lt. h (suc i) e (omega (arith, lt))) k.1)

timed : (p : Part) (r : Option Rule) → IfSome r (λ q. IsValidForm q.form) → HasTime p r → HasStartTime p r
timed p None h time = tt
timed p (Some rule) h time = (h, time)

lasting : (r : Option Rule) (u : Option Moment) → u ≡ None → HasLast r u
lasting None u is = is
lasting (Some rule) u is = subst (λ (o : Option Moment). IfSome o (λ m. HasMeaning m.seconds)) (sym is) tt

written_part : (p : Part) → IsSpellable p → IsKept p → IsWrittenPart p
written_part p h k = record {
  sound = record {
    start = (h.writable.start.0, k.start);
    from = h.writable.from;
    to = h.writable.to;
    dates = meant_dates p.dates h.writable.dates k.dates;
    rule = timed p p.rule h.writable.rule h.time;
  };
  name = k.name;
  until = lasting p.rule p.until k.until;
}

written_parts : (ps : List Part) → All IsSpellable ps → AllByRecursion IsKept ps → AllByRecursion IsWrittenPart ps
written_parts [] h k = tt
written_parts (p ∷ ps) h k = (written_part p (h 0 p (omega arith)) k.0, written_parts ps (λ i e lt. h (suc i) e (omega (arith, lt))) k.1)

pub zone_written : (file : List ℕ) (from : Moment) → zone_fault file ≡ None → has_printable_names file ≡ true
    → IsCarriedIfAny (footer_meant (lists_of file).footer)
    → HasMeaning from.seconds → All IsSpellable (range_parts file (record { from = from; until = None }))
    → AllByRecursion IsWrittenPart (range_parts file (record { from = from; until = None }))
zone_written file from h names carried meaning spelled =
    written_parts (range_parts file (record { from = from; until = None })) spelled (zone_kept file from h names carried meaning)
