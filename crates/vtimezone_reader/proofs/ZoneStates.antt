-- The parts of a zone give, by their latest onsets, the zone's states.
use Rattle.std.proofs.Common.{◌≡◌, ◌⊎◌, inl, inr, ℕ, ◌<◌, Bool, true, false, not, ◌&&◌, ◌||◌, if◌then◌else◌, refl, sym, ap, ◌∙◌, subst}
use Rattle.std.proofs.Common.{arith}
use Rattle.std.proofs.Common.{ℤ, pos, ◌+ℤ◌, ◌-ℤ◌, ◌*ℤ◌, ◌≤ℤ◌, ◌<ℤ◌, int_lt, Option, None, Some, List, [], ◌∷◌, ◌++◌, length, map, get_or}
use Rattle.std.specs.List.{All, AllByRecursion, Contains}
use Rattle.std.specs.Ordering.{int_eq}
use Rattle.std.specs.Option.{option_or}
use Rattle.std.proofs.lemmas.Bool.{cond_both, cond-true}
use Rattle.std.proofs.lemmas.Int.{ints}
use Rattle.std.proofs.lemmas.List.{get_or_default}
use Rattle.jiff_core.specs.Calendar.{IsWithin, IsYear}
use Rattle.jiff_core.proofs.SignedLemmas.{signed_arith}
use Rattle.td_civil.specs.Bounds.{HasMeaning, IsWithinBounds}
use Rattle.td_civil.specs.declared.moment_type.Moment.{Moment}
use Rattle.td_civil.specs.declared.moment_type.TheConstants.{LO, HI}
use Rattle.td_civil.specs.declared.local_time.Local.{Local}
use Rattle.td_civil.specs.declared.local_time.Observance.{Observance}
use Rattle.posix_footer.specs.Carried.{is_all_year, is_carried_rule, beyond_if_any, IsCarriedIfAny}
use Rattle.posix_footer.specs.Grammar.{footer_in}
use Rattle.posix_footer.specs.Lawful.{IsLawfulRule, IsLawfulIfAny, IsLawful}
use Rattle.posix_footer.specs.Onset.{onset_of}
use Rattle.posix_footer.specs.declared.footer_fault.FooterFault.{FooterFault}
use Rattle.posix_footer.specs.declared.rule_types.DstRule.{DstRule}
use Rattle.posix_footer.specs.declared.rule_types.Edge.{Edge}
use Rattle.posix_footer.specs.declared.rule_types.Edge.TheVariants as edge
use Rattle.posix_footer.specs.declared.rule_types.Footer.{Footer}
use Rattle.posix_footer.proofs.lemmas.Lawfulness.{read_lawful}
use Rattle.std.proofs.Common.{Result, Ok, Err}
use Rattle.std.specs.Result.{result_ok}
use Rattle.zone_meaning.specs.State.{footer_meant}
use Rattle.zone_meaning.specs.Observed.{observed}
use Rattle.zone_meaning.proofs.lemmas.Members.{member_first, member_later, member_cases}
use Rattle.recurrence.specs.declared.part_types.Part.{Part}
use Rattle.recurrence.specs.declared.rule_types.Rule.{Rule}
use Rattle.recurrence.specs.Falls.{IsOfYear}
use Rattle.recurrence.specs.InForce.{NotAfter, IsRuleOnset, IsOnsetUnder, IsOnset, GivesState}
use Rattle.recurrence.specs.Occurs.{AreRulesOf}
use Rattle.recurrence.specs.RuleOfDate.{rule_of}
use Rattle.recurrence.specs.Spellable.{IsSpellable}
use Rattle.vtimezone.specs.Grouping.{first_ones, part_among, grouped}
use Rattle.vtimezone.specs.PartsOf.{rule_part, rule_parts, rules_if_any, rules_of, parts_from, year_begin, changes_end}
use Rattle.vtimezone_reader.specs.FallsOn.{date_of_day}
use Rattle.vtimezone_reader.specs.Observing.{NoneBetween, any_onset}
use Rattle.vtimezone_reader.specs.Onsets.{is_among, is_not_after, is_rule_onset, is_onset_of, has_onset, begun_at, calendar_state}
use Rattle.vtimezone_reader.proofs.Falling.{IsDay, falls_is, civil_date}
use Rattle.vtimezone_reader.proofs.RuleOnsets.{rule_at, onset_passes}
use Rattle.vtimezone_reader.proofs.States.{none_begun, state_begun, stays_until}
use Rattle.vtimezone_reader.proofs.TurnWalk.{any_place, place_any}
use Rattle.vtimezone_reader.proofs.YearShown.{date_in_year}
use Rattle.td_civil.proofs.lemmas.Counting.{date_of_number}
use Rattle.vtimezone_reader.proofs.Tests.{not_true, either_is, or_left, or_right, int_same, int_eq_of, lt_is}

-- ---- the parts of a zone

-- a rule is all that gives the part onsets
pub record IsRuled (p : Part) (rule : Rule) : Type 0 where
  pub no_dates : p.dates ≡ []
  pub second : rule.second < 86400
  pub start : IsRuleOnset rule p p.start.seconds

abbrev IsPlainBy : Part → Option Rule → Type 0
IsPlainBy p None = Unit {0}
IsPlainBy p (Some rule) = IsRuled p rule

abbrev pub IsPlain : Part → Type 0
IsPlain p = IsPlainBy p p.rule

plain_both : (xs ys : List Part) → AllByRecursion IsPlain xs → AllByRecursion IsPlain ys → AllByRecursion IsPlain (xs ++ ys)
plain_both [] ys a b = b
plain_both (x ∷ xs) ys a b = (a.0, plain_both xs ys a.1 b)

groups_plain : (os fs : List Observance) → AllByRecursion IsPlain (map (part_among os) fs)
groups_plain os [] = tt
groups_plain os (f ∷ fs) = (tt, groups_plain os fs)

grouped_plain : (os : List Observance) → AllByRecursion IsPlain (grouped os)
unfolding grouped
grouped_plain os = groups_plain os (first_ones os)

-- rules stand for those of the dates of a footer
abbrev pub KeepOnsets : Type 0
KeepOnsets = (rule : DstRule) (std : ℤ) → IsLawfulRule std rule → is_carried_rule rule ≡ true → AreRulesOf std rule (rule_of rule.start) (rule_of rule.end)

module _ (keeps : KeepOnsets) (std : Local) (rule : DstRule) (y0 : ℤ) (lawful : IsLawfulRule std.offset rule) (carried : is_carried_rule rule ≡ true)
    (year : IsYear y0) where
  part_plain : (at : Edge) → IsPlain (rule_part std rule y0 at None)
  unfolding rule_part
  part_plain edge.Start =
      let rules = keeps rule std.offset lawful carried in
      let falls = (rules.each_year y0 year).start_falls in
      record {
        no_dates = refl;
        second = rules.start_valid.second;
        start = record {
          day = falls.day;
          falls = falls.occurs.falls;
          moment_is = sym falls.moment_is;
          from_start = omega (arith, signed_arith);
          not_after = tt;
        };
      }
  part_plain edge.End =
      let rules = keeps rule std.offset lawful carried in
      let falls = (rules.each_year y0 year).end_falls in
      record {
        no_dates = refl;
        second = rules.end_valid.second;
        start = record {
          day = falls.day;
          falls = falls.occurs.falls;
          moment_is = sym falls.moment_is;
          from_start = omega (arith, signed_arith);
          not_after = tt;
        };
      }

  parts_plain : AllByRecursion IsPlain (rule_parts std rule y0 None)
  unfolding rule_parts
  parts_plain =
      cond_both (int_lt (onset_of rule std.offset y0 edge.Start) (onset_of rule std.offset y0 edge.End)) _ _ (AllByRecursion IsPlain)
      (λ lt. (part_plain edge.Start, (part_plain edge.End, tt)))
      (λ ge. (part_plain edge.End, (part_plain edge.Start, tt)))

pub not_beyond : (x y : Bool) → (not x && not y) ≡ false → x ≡ false → y ≡ true
not_beyond true y e f = absurd (cc)
not_beyond false true e f = refl
not_beyond false false e f = absurd (cc)

if_any_plain : KeepOnsets → (std : Local) (dst : Option DstRule) (n : ℕ) → IsLawfulIfAny std.offset dst → beyond_if_any std.offset dst ≡ false
    → AllByRecursion IsPlain (rules_if_any std dst (pos n +ℤ pos 1) None)
if_any_plain keeps std None n lawful carried = tt
if_any_plain keeps std (Some rule) n lawful carried =
    cond_both (is_all_year std.offset rule) [] _ (AllByRecursion IsPlain) (λ all. tt)
    (λ some. cond_both (int_lt (pos n +ℤ pos 1) (pos 9999)) (rule_parts std rule (pos n +ℤ pos 1) None) [] (AllByRecursion IsPlain)
    (λ lt. parts_plain keeps std rule (pos n +ℤ pos 1) lawful (not_beyond (is_all_year std.offset rule) (is_carried_rule rule) carried some) (year n lt))
    (λ ge. tt))
  where
    year : (n : ℕ) → int_lt (pos n +ℤ pos 1) (pos 9999) ≡ true → IsYear (pos n +ℤ pos 1)
    year n lt =
        let below : (pos n +ℤ pos 1) <ℤ pos 9999 = lt_is (pos n +ℤ pos 1) (pos 9999) lt in
        (omega (arith, signed_arith), omega (arith, signed_arith, below))

abbrev pub IsLawfulAndCarried : Option Footer → Type 0
IsLawfulAndCarried None = Unit {0}
IsLawfulAndCarried (Some footer) = IsLawful footer × (beyond_if_any footer.std.offset footer.dst ≡ false)

lawful_result : (text : List ℕ) (r : Result Footer FooterFault) → footer_in text ≡ r → IsCarriedIfAny (result_ok r) → IsLawfulAndCarried (result_ok r)
lawful_result text (Ok footer) is carried = (read_lawful text footer is, carried)
lawful_result text (Err fault) is carried = tt

pub lawful_footer : (text : List ℕ) → IsCarriedIfAny (footer_meant text) → IsLawfulAndCarried (footer_meant text)
lawful_footer [] carried = tt
lawful_footer (b ∷ bs) carried = lawful_result (b ∷ bs) (footer_in (b ∷ bs)) refl carried

rules_plain : KeepOnsets → (footer : Option Footer) (n : ℕ) → IsLawfulAndCarried footer → AllByRecursion IsPlain (rules_of footer (pos n +ℤ pos 1) None)
rules_plain keeps None n h = tt
rules_plain keeps (Some footer) n h = if_any_plain keeps footer.std footer.dst n h.0.rule h.1

pub from_plain : KeepOnsets → (state : ℤ → Local) (text : List ℕ) (a : ℤ) (n : ℕ) → IsCarriedIfAny (footer_meant text)
    → AllByRecursion IsPlain (parts_from state (footer_meant text) a None (pos n +ℤ pos 1))
unfolding parts_from
from_plain keeps state text a n carried =
    plain_both (grouped (observed state a (changes_end (year_begin (pos n +ℤ pos 1)) None))) (rules_of (footer_meant text) (pos n +ℤ pos 1) None)
    (grouped_plain (observed state a (changes_end (year_begin (pos n +ℤ pos 1)) None)))
    (rules_plain keeps (footer_meant text) n (lawful_footer text carried))

-- ---- the test of an onset is the relation

at : (m : Moment) (v : ℤ) → m.seconds ≡ v → m ≡ record { seconds = v }
at m v e = ap (λ (s : ℤ). record { seconds = s }) e

among_is : (dates : List Moment) (v : ℤ) → is_among dates v ≡ true → Contains dates (record { seconds = v })
among_is [] v e = absurd (cc)
among_is (d ∷ ds) v e = elim (either_is (int_eq d.seconds v) (is_among ds v) e) [
  | inl x ↦
      let P : Moment → Type 0 = λ m. Contains (d ∷ ds) m in
      subst P (at d v (int_same d.seconds v x)) (member_first d ds)
  | inr x ↦ member_later d (record { seconds = v }) ds (among_is ds v x)
]

is_among_of : (dates : List Moment) (v : ℤ) → Contains dates (record { seconds = v }) → is_among dates v ≡ true
is_among_of [] v there = absurd (omega (arith, there.1))
is_among_of (d ∷ ds) v there = elim (member_cases d (record { seconds = v }) ds there) [
  | inl x ↦ or_left (int_eq d.seconds v) (is_among ds v) (int_eq_of d.seconds v (ap (λ (m : Moment). m.seconds) x))
  | inr x ↦ or_right (int_eq d.seconds v) (is_among ds v) (is_among_of ds v x)
]

not_after_is : (until : Option Moment) (v : ℤ) → is_not_after until v ≡ true → NotAfter v until
not_after_is None v e = tt
not_after_is (Some last) v e = grind (arith, ints)

is_not_after_of : (until : Option Moment) (v : ℤ) → NotAfter v until → is_not_after until v ≡ true
is_not_after_of None v h = refl
is_not_after_of (Some last) v h = grind (arith, ints)

-- the days of moments that have a meaning
shown_in_years : (o v day : ℤ) (s : ℕ) → IsWithin 86399 o → s < 86400 → IsWithinBounds v → v +ℤ o ≡ (day *ℤ pos 86400) +ℤ pos s → IsDay day
shown_in_years o v day s within small bounds is =
    (omega (arith, signed_arith, within, small, bounds, is), omega (arith, signed_arith, within, small, bounds, is))

own_year : (day : ℤ) → IsDay day → IsOfYear (pos (date_of_day day).year) day
own_year day h =
    let number = date_of_number day h.0 h.1 in
    let P : ℤ → Type 0 = λ d. IsOfYear (pos (date_of_day day).year) d in
    subst P (sym number) (date_in_year (pos (date_of_day day).year) (date_of_day day).month (date_of_day day).day (civil_date day h))

moment_back : (d s o v : ℤ) → v ≡ (d +ℤ s) -ℤ o → v +ℤ o ≡ d +ℤ s
moment_back d s o v e = omega (arith, signed_arith)

moment_on : (d s o v : ℤ) → v +ℤ o ≡ d +ℤ s → v ≡ (d +ℤ s) -ℤ o
moment_on d s o v e = omega (arith, signed_arith)

module _ (p : Part) (within : IsWithin 86399 p.from) where
  rule_is : (rule : Rule) (v : ℤ) → rule.second < 86400 → IsWithinBounds v → is_rule_onset p rule v ≡ true → IsRuleOnset rule p v
  rule_is rule v small bounds e =
      let on = rule_at p rule v e in
      record {
        day = on.day;
        falls = falls_is rule.form on.day (shown_in_years p.from v on.day rule.second within small bounds on.moment) on.falls;
        moment_is = moment_on (on.day *ℤ pos 86400) (pos rule.second) p.from v on.moment;
        from_start = on.from_start;
        not_after = not_after_is p.until v on.not_after;
      }

  is_rule_of : (rule : Rule) (v : ℤ) → rule.second < 86400 → IsWithinBounds v → IsRuleOnset rule p v → is_rule_onset p rule v ≡ true
  is_rule_of rule v small bounds h =
      let back = moment_back (h.day *ℤ pos 86400) (pos rule.second) p.from v h.moment_is in
      let day = shown_in_years p.from v h.day rule.second within small bounds back in
      let civil = civil_date h.day day in
      let high = civil.0.1 in
      onset_passes p rule (date_of_day h.day).year h.day v small (omega (arith, signed_arith, high)) day (own_year h.day day) h.falls h.moment_is h.from_start
      (is_not_after_of p.until v h.not_after)

  has_by : (r : Option Rule) (v : ℤ) → IsPlainBy p r → IsWithinBounds v
      → (int_eq p.start.seconds v || is_among p.dates v || is_onset_of r p v) ≡ true → IsOnsetUnder r p v
  has_by None v plain bounds e = elim (either_is (int_eq p.start.seconds v || is_among p.dates v) false e) [
    | inl x ↦ among_is (p.start ∷ p.dates) v x
    | inr x ↦ absurd (cc)
  ]
  has_by (Some rule) v plain bounds e = elim (either_is (int_eq p.start.seconds v || is_among p.dates v) (is_rule_onset p rule v) e) [
    | inl x ↦ elim (either_is (int_eq p.start.seconds v) (is_among p.dates v) x) [
      | inl y ↦
          let P : ℤ → Type 0 = λ w. IsRuleOnset rule p w in
          subst P (int_same p.start.seconds v y) plain.start
      | inr y ↦
          let none : is_among p.dates v ≡ false = ap (λ ds. is_among ds v) plain.no_dates in
          absurd (cc)
    ]
    | inr x ↦ rule_is rule v plain.second bounds x
  ]

  is_by : (r : Option Rule) (v : ℤ) → IsPlainBy p r → IsWithinBounds v → IsOnsetUnder r p v
      → (int_eq p.start.seconds v || is_among p.dates v || is_onset_of r p v) ≡ true
  is_by None v plain bounds h =
      or_left (int_eq p.start.seconds v || is_among p.dates v) false (is_among_of (p.start ∷ p.dates) v h)
  is_by (Some rule) v plain bounds h =
      or_right (int_eq p.start.seconds v || is_among p.dates v) (is_rule_onset p rule v) (is_rule_of rule v plain.second bounds h)

onset_is : (p : Part) (v : ℤ) → IsWithin 86399 p.from → IsPlain p → IsWithinBounds v → has_onset p v ≡ true → IsOnset p v
unfolding has_onset
onset_is p v within plain bounds e = has_by p within p.rule v plain bounds e

has_onset_of : (p : Part) (v : ℤ) → IsWithin 86399 p.from → IsPlain p → IsWithinBounds v → IsOnset p v → has_onset p v ≡ true
unfolding has_onset
has_onset_of p v within plain bounds h = is_by p within p.rule v plain bounds h

-- ---- the part in force is that of the latest onset

all_at : (parts : List Part) (p : Part) → AllByRecursion IsPlain parts → Contains parts p → IsPlain p
all_at [] p h there = absurd (omega (arith, there.1))
all_at (q ∷ qs) p h there = elim (member_cases q p qs there) [
  | inl is ↦ subst IsPlain is h.0
  | inr later ↦ all_at qs p h.1 later
]

spelled_at : (parts : List Part) (p : Part) → All IsSpellable parts → Contains parts p → IsSpellable p
spelled_at parts p h there = subst IsSpellable there.2 (h there.0 p there.1)

begun_more : (x : Part) (xs : List Part) (m : ℤ) → begun_at (x ∷ xs) m ≡ option_or (begun_at xs m) (if has_onset x m then Some x else None)
unfolding begun_at
begun_more x xs m = refl

left_of : (a : Bool) → (a || false) ≡ true → a ≡ true
left_of true e = refl
left_of false e = e

only_by : (b : Bool) (x : Part) (xs : List Part) (p : Part) (m : ℤ) → any_onset xs m ≡ b → (b ≡ true → begun_at xs m ≡ Some p) → (has_onset x m || b) ≡ true
    → (has_onset x m ≡ true → x ≡ p) → begun_at (x ∷ xs) m ≡ Some p
only_by true x xs p m is rest e one =
    begun_more x xs m ∙ ap (λ o. option_or o (if has_onset x m then Some x else None)) (rest refl)
only_by false x xs p m is rest e one =
    let has = left_of (has_onset x m) e in
    begun_more x xs m ∙ ap (λ o. option_or o (if has_onset x m then Some x else None)) (none_begun xs m is)
    ∙ cond-true (has_onset x m) (Some x) None has ∙ ap Some (one has)

only_begun : (parts : List Part) (p : Part) (m : ℤ) → ((q : Part) → Contains parts q → has_onset q m ≡ true → q ≡ p) → any_onset parts m ≡ true
    → begun_at parts m ≡ Some p
only_begun [] p m one e = absurd (cc)
only_begun (x ∷ xs) p m one e =
    only_by (any_onset xs m) x xs p m refl (λ is. only_begun xs p m (λ q there. one q (member_later x q xs there)) is) e (one x (member_first x xs))

onset_low : (p : Part) (r : Option Rule) (m : ℤ) → IsSpellable p → IsOnsetUnder r p m → LO ≤ℤ m
onset_low p None m h on = elim (member_cases p.start (record { seconds = m }) p.dates on) [
  | inl is ↦
      let low = h.writable.start.0 in
      let same = ap (λ (d : Moment). d.seconds) is in
      omega (arith, signed_arith, low, same)
  | inr there ↦
      let bounds = h.writable.dates there.0 (record { seconds = m }) there.1 in
      let low = bounds.0 in
      let same = ap (λ (d : Moment). d.seconds) there.2 in
      omega (arith, signed_arith, low, same)
]
onset_low p (Some rule) m h on =
    let low = h.writable.start.0 in
    let from = on.from_start in
    omega (arith, signed_arith, low, from)

pub gives : (parts : List Part) (t : ℤ) (state : Local) → AllByRecursion IsPlain parts → All IsSpellable parts → HasMeaning t → GivesState parts t state
    → calendar_state parts t ≡ state
gives parts t state plain spelled meant h =
    let p = h.0 in
    let force = h.1.0 in
    let m = force.onset in
    let there = force.there in
    let own = spelled_at parts p spelled there in
    let low : LO ≤ℤ m = onset_low p p.rule m own force.is in
    let by : m ≤ℤ t = force.begun in
    let high : t <ℤ HI = meant.1 in
    let bounds : IsWithinBounds m = (low, omega (arith, signed_arith, by, high)) in
    let has : has_onset p m ≡ true = has_onset_of p m own.writable.from (all_at parts p plain there) bounds force.is in
    let is : (q : Part) (v : ℤ) → Contains parts q → LO ≤ℤ v → v ≤ℤ t → has_onset q v ≡ true → IsOnset q v = λ q v inside from to e.
    onset_is q v (spelled_at parts q spelled inside).writable.from (all_at parts q plain inside) (from, omega (arith, signed_arith, to, high)) e in
    let P : Part → Type 0 = λ q. has_onset q m ≡ true in
    let some : any_onset parts m ≡ true = place_any parts m there.0 there.1 (λ d. subst P (sym (found parts there.0 d p there.1 there.2)) has) in
    let begun : begun_at parts m ≡ Some p = only_begun parts p m (λ q inside e. at_most q m (force.greatest q m inside (is q m inside low by e) by)) some in
    let none : NoneBetween (any_onset parts) m (t +ℤ pos 1) = λ v later before. not_true (any_onset parts v) (λ e.
    let place = any_place parts v e in
    let q = get_or parts place.place p in
    let inside : Contains parts q = (place.place, place.inside, found_own parts place.place p place.inside) in
    let to : v ≤ℤ t = omega (arith, signed_arith, before) in
    let on = is q v inside (omega (arith, signed_arith, low, later)) to (place.has p) in
    later_not q v m later (force.greatest q v inside on to)) in
    let stays = stays_until parts m (t +ℤ pos 1) (omega (arith, signed_arith, low)) none t by (omega (arith, signed_arith)) in
    stays ∙ state_begun parts m p low begun ∙ h.1.1
  where
    at_most : (q : Part) (m : ℤ) → (m <ℤ m) ⊎ ((m ≡ m) × (q ≡ h.0)) → q ≡ h.0
    at_most q m (inl lt) = absurd (omega (arith, signed_arith, lt))
    at_most q m (inr same) = same.1

    later_not : (q : Part) (v m : ℤ) → m <ℤ v → (v <ℤ m) ⊎ ((v ≡ m) × (q ≡ h.0)) → ⊥
    later_not q v m later (inl lt) = omega (arith, signed_arith, later, lt)
    later_not q v m later (inr same) = let is = same.0 in omega (arith, signed_arith, later, is)

    found : (ps : List Part) (k : ℕ) (d q : Part) → k < length ps → get_or ps k q ≡ q → get_or ps k d ≡ q
    found ps k d q lt is = get_or_default ps k d q lt ∙ is

    found_own : (ps : List Part) (k : ℕ) (d : Part) → k < length ps → get_or ps k (get_or ps k d) ≡ get_or ps k d
    found_own ps k d lt = get_or_default ps k (get_or ps k d) d lt
