-- The test for an onset passes at the onsets of a part, and nowhere else.
use Rattle.std.proofs.Common.{◌≡◌, ◌↔◌, List, [], ◌∷◌, true, ◌&&◌, ◌||◌, Option, None, Some, inl, inr, refl, ap, subst}
use Rattle.std.specs.Prelude.{ℤ, ◌≤ℤ◌, int_le}
use Rattle.std.specs.List.{Contains}
use Rattle.std.specs.Ordering.{int_eq}
use Rattle.std.proofs.lemmas.Bool.{and_from, and_parts}
use Rattle.td_civil.specs.declared.moment_type.Moment.{Moment}
use Rattle.recurrence.specs.declared.part_types.Part.{Part}
use Rattle.recurrence.specs.declared.rule_types.Rule.{Rule}
use Rattle.recurrence.specs.Occurs.{moment_of}
use Rattle.vtimezone_reader.specs.FallsOn.{falls_on}
use Rattle.vtimezone_reader.specs.Onsets.{day_shown, has_onset, is_among, is_not_after, is_onset_of, is_rule_onset}
use Rattle.zone_meaning.proofs.lemmas.Members.{member_first, member_later, member_cases, no_member}
use Rattle.reader_laws.specs.Latest.{IsOnsetByRule, IsOnsetOf}
use Rattle.reader_laws.proofs.Tests.{either, left_or, right_or, same_int, int_same, to_le, le_to}

abbrev at : ℤ → Moment
at t = record { seconds = t }

among_is : (dates : List Moment) (t : ℤ) → is_among dates t ≡ true → Contains dates (at t)
among_is [] t h = absurd cc
among_is (d ∷ ds) t h =
    elim (either (int_eq d.seconds t) (is_among ds t) h) [
      | inl here ↦ let same : d ≡ at t = ap at (same_int d.seconds t here) in subst (λ (x : Moment). Contains (d ∷ ds) x) same (member_first d ds)
      | inr later ↦ member_later d (at t) ds (among_is ds t later)
    ]

is_there : (dates : List Moment) (t : ℤ) → Contains dates (at t) → is_among dates t ≡ true
is_there [] t there = absurd (no_member (at t) there)
is_there (d ∷ ds) t there =
    elim (member_cases d (at t) ds there) [
      | inl here ↦ left_or (int_eq d.seconds t) (is_among ds t) (int_same d.seconds t (ap (λ (x : Moment). x.seconds) here))
      | inr later ↦ right_or (int_eq d.seconds t) (is_among ds t) (is_there ds t later)
    ]

ended_is : (until : Option Moment) (t : ℤ) → is_not_after until t ≡ true → (last : Moment) → until ≡ Some last → t ≤ℤ last.seconds
ended_is None t h last is = absurd cc
ended_is (Some m) t h last is = let same : m ≡ last = cc in subst (λ (x : Moment). t ≤ℤ x.seconds) same (to_le t m.seconds h)

is_ended : (until : Option Moment) (t : ℤ) → ((last : Moment) → until ≡ Some last → t ≤ℤ last.seconds) → is_not_after until t ≡ true
is_ended None t h = refl
is_ended (Some m) t h = le_to t m.seconds (h m refl)

by_rule : (p : Part) (rule : Rule) (t : ℤ) → is_rule_onset p rule t ≡ true → IsOnsetByRule p rule t
unfolding is_rule_onset
by_rule p rule t h =
    let day = day_shown p.from t in
    let one = and_parts (int_eq (moment_of rule p.from day) t && falls_on rule.form day && int_le p.start.seconds t) (is_not_after p.until t) h in
    let two = and_parts (int_eq (moment_of rule p.from day) t && falls_on rule.form day) (int_le p.start.seconds t) one.0 in
    let three = and_parts (int_eq (moment_of rule p.from day) t) (falls_on rule.form day) two.0 in
    record {
      moment = same_int (moment_of rule p.from day) t three.0;
      falls = three.1;
      begun = to_le p.start.seconds t two.1;
      ended = ended_is p.until t one.1;
    }

rule_falls : (p : Part) (rule : Rule) (t : ℤ) → IsOnsetByRule p rule t → is_rule_onset p rule t ≡ true
unfolding is_rule_onset
rule_falls p rule t is =
    let day = day_shown p.from t in
    and_from (int_eq (moment_of rule p.from day) t && falls_on rule.form day && int_le p.start.seconds t) (is_not_after p.until t)
    (and_from (int_eq (moment_of rule p.from day) t && falls_on rule.form day) (int_le p.start.seconds t)
    (and_from (int_eq (moment_of rule p.from day) t) (falls_on rule.form day) (int_same (moment_of rule p.from day) t is.moment) is.falls)
    (le_to p.start.seconds t is.begun)) (is_ended p.until t is.ended)

abbrev HasRule : Option Rule → Part → ℤ → Type 0
HasRule o p t = (rule : Rule) × (o ≡ Some rule) × IsOnsetByRule p rule t

of_rule : (o : Option Rule) (p : Part) (t : ℤ) → is_onset_of o p t ≡ true → HasRule o p t
of_rule None p t h = absurd cc
of_rule (Some rule) p t h = (rule, refl, by_rule p rule t h)

rule_gives : (o : Option Rule) (p : Part) (t : ℤ) → HasRule o p t → is_onset_of o p t ≡ true
rule_gives None p t h = absurd (let none : None ≡ Some h.0 = h.1 in cc)
rule_gives (Some rule) p t h = let same : h.0 ≡ rule = (let e : Some rule ≡ Some h.0 = h.1 in cc) in subst (λ (x : Rule). is_rule_onset p x t ≡ true) same (rule_falls p h.0 t h.2)

pub is_onset : (p : Part) (t : ℤ) → has_onset p t ≡ true → IsOnsetOf p t
unfolding has_onset
is_onset p t h =
    elim (either (int_eq p.start.seconds t || is_among p.dates t) (is_onset_of p.rule p t) h) [
      | inl listed ↦ elim (either (int_eq p.start.seconds t) (is_among p.dates t) listed) as (λ x. IsOnsetOf p t) [
        | inl start ↦ inl (same_int p.start.seconds t start)
        | inr date ↦ inr (inl (among_is p.dates t date))
      ]
      | inr rule ↦ inr (inr (of_rule p.rule p t rule))
    ]

pub onset_passes : (p : Part) (t : ℤ) → IsOnsetOf p t → has_onset p t ≡ true
unfolding has_onset
onset_passes p t (inl start) =
    left_or (int_eq p.start.seconds t || is_among p.dates t) (is_onset_of p.rule p t) (left_or (int_eq p.start.seconds t) (is_among p.dates t) (int_same p.start.seconds t start))
onset_passes p t (inr (inl date)) =
    left_or (int_eq p.start.seconds t || is_among p.dates t) (is_onset_of p.rule p t) (right_or (int_eq p.start.seconds t) (is_among p.dates t) (is_there p.dates t date))
onset_passes p t (inr (inr rule)) =
    right_or (int_eq p.start.seconds t || is_among p.dates t) (is_onset_of p.rule p t) (rule_gives p.rule p t rule)

pub onset_is : (p : Part) (t : ℤ) → (has_onset p t ≡ true) ↔ IsOnsetOf p t
onset_is p t = (is_onset p t, onset_passes p t)
