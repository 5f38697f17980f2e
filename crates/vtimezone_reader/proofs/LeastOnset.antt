-- The least onset of parts.
use Rattle.std.proofs.Common.{◌≡◌, ◌⊎◌, inl, inr, ℕ, ◌+◌, ◌≤◌, ◌<◌, true, false, ◌||◌, refl, sym, ap, ◌∙◌, subst, arith, ℤ, ◌≤ℤ◌, List, length}
use Rattle.std.proofs.Common.{take, get_or}
use Rattle.std.specs.Int.{int_min}
use Rattle.std.specs.Ordering.{int_eq}
use Rattle.std.proofs.lemmas.Int.{ints, by_lt_z}
use Rattle.std.proofs.lemmas.List.{take_all}
use Rattle.std.proofs.lemmas.List.Folds.{list_any_more, list_any_at}
use Rattle.jiff_core.proofs.SignedLemmas.{signed_arith}
use Rattle.td_civil.specs.declared.moment_type.Moment.{Moment}
use Rattle.recurrence.specs.declared.part_types.Part.{Part}
use Rattle.vtimezone_reader.specs.Observing.{any_onset, IsLeast}
use Rattle.vtimezone_reader.specs.Onsets.{is_among, is_onset_of, has_onset}
use Rattle.vtimezone_reader.proofs.RuleOnsets.{onset_from_start}
use Rattle.vtimezone_reader.proofs.Tests.{either_is, or_left, or_right, int_same, int_eq_of}

-- the lesser of two is one of them, and not above either
pub record IsLesser (a b m : ℤ) : Type 0 where
  pub one : (m ≡ a) ⊎ (m ≡ b)
  pub first : m ≤ℤ a
  pub second : m ≤ℤ b

lesser : (a b m : ℤ) → m ≡ int_min a b → IsLesser a b m
lesser a b m e = by_lt_z a b
    (λ lt. let is : int_min a b ≡ a = grind (arith, ints) in
    record { one = inl (e ∙ is); first = omega (arith, signed_arith, e, is); second = omega (arith, signed_arith, e, is, lt) })
    (λ ge. let is : int_min a b ≡ b = grind (arith, ints) in
    record { one = inr (e ∙ is); first = omega (arith, signed_arith, e, is, ge); second = omega (arith, signed_arith, e, is) })

pub start_is : (p : Part) → has_onset p p.start.seconds ≡ true
unfolding has_onset
start_is p =
    or_left (int_eq p.start.seconds p.start.seconds || is_among p.dates p.start.seconds) (is_onset_of p.rule p p.start.seconds)
    (or_left (int_eq p.start.seconds p.start.seconds) (is_among p.dates p.start.seconds) (int_eq_of p.start.seconds p.start.seconds refl))

pub start_least : (s v : ℤ) → (int_eq s v || false) ≡ true → s ≤ℤ v
start_least s v e = elim (either_is (int_eq s v) false e) [
  | inl x ↦ let is = int_same s v x in omega (arith, signed_arith, is)
  | inr x ↦ absurd (cc)
]

date_is : (p : Part) (i : ℕ) (d : Moment) → i < length p.dates → has_onset p (get_or p.dates i d).seconds ≡ true
unfolding has_onset
date_is p i d lt =
    let v = (get_or p.dates i d).seconds in
    or_left (int_eq p.start.seconds v || is_among p.dates v) (is_onset_of p.rule p v)
    (or_right (int_eq p.start.seconds v) (is_among p.dates v) (list_any_at (λ (m : Moment). int_eq m.seconds v) p.dates i d lt (int_eq_of v v refl)))

-- the least of the start and the first dates
pub record IsLeastOf (p : Part) (i : ℕ) (first : ℤ) : Type 0 where
  pub is : has_onset p first ≡ true
  pub least : (v : ℤ) → (int_eq p.start.seconds v || is_among (take i p.dates) v) ≡ true → first ≤ℤ v

pub least_more : (p : Part) (i : ℕ) (d : Moment) (first now : ℤ) → i < length p.dates → IsLeastOf p i first → now ≡ int_min first (get_or p.dates i d).seconds
    → IsLeastOf p (i + 1) now
least_more p i d first now lt h e =
    let date = (get_or p.dates i d).seconds in
    let both = lesser first date now e in
    let P : ℤ → Type 0 = λ m. has_onset p m ≡ true in
    let low = both.first in
    let also = both.second in
    record {
      is = elim both.one [ inl x ↦ subst P (sym x) h.is | inr x ↦ subst P (sym x) (date_is p i d lt) ];
      least = λ v on. elim (either_is (int_eq p.start.seconds v) (is_among (take (i + 1) p.dates) v) on) [
        | inl x ↦
            let from = h.least v (or_left (int_eq p.start.seconds v) (is_among (take i p.dates) v) x) in
            omega (arith, signed_arith, low, from)
        | inr x ↦ elim (either_is (is_among (take i p.dates) v) (int_eq date v) (sym (list_any_more (λ (m : Moment). int_eq m.seconds v) p.dates i d lt) ∙ x)) [
          | inl y ↦
              let from = h.least v (or_right (int_eq p.start.seconds v) (is_among (take i p.dates) v) y) in
              omega (arith, signed_arith, low, from)
          | inr y ↦ let is = int_same date v y in omega (arith, signed_arith, also, is)
        ]
      ];
    }

pub least_all : (p : Part) (i : ℕ) (first : ℤ) → length p.dates ≤ i → IsLeastOf p i first → IsLeast (has_onset p) first
unfolding has_onset
least_all p i first all h = record {
  is = h.is;
  least = λ v on. elim (either_is (int_eq p.start.seconds v || is_among p.dates v) (is_onset_of p.rule p v) on) [
    | inl x ↦ h.least v (ap (λ (ds : List Moment). int_eq p.start.seconds v || is_among ds v) (take_all i p.dates all) ∙ x)
    | inr x ↦
        let from = onset_from_start p v x in
        let start = h.least p.start.seconds
        (or_left (int_eq p.start.seconds p.start.seconds) (is_among (take i p.dates) p.start.seconds) (int_eq_of p.start.seconds p.start.seconds refl)) in
        omega (arith, signed_arith, from, start)
  ];
}

-- the least onset of the first parts
pub record IsLeastAmong (parts : List Part) (i : ℕ) (first : ℤ) : Type 0 where
  pub is : any_onset parts first ≡ true
  pub least : (v : ℤ) → any_onset (take i parts) v ≡ true → first ≤ℤ v

pub among_more : (parts : List Part) (i : ℕ) (p : Part) (first own now : ℤ) → i < length parts → p ≡ get_or parts i p → IsLeastAmong parts i first
    → IsLeast (has_onset p) own → now ≡ int_min first own → IsLeastAmong parts (i + 1) now
among_more parts i p first own now lt at h mine e =
    let both = lesser first own now e in
    let P : ℤ → Type 0 = λ m. any_onset parts m ≡ true in
    let low = both.first in
    let also = both.second in
    let Q : Part → Type 0 = λ q. has_onset q own ≡ true in
    record {
      is = elim both.one [
        | inl x ↦ subst P (sym x) h.is
        | inr x ↦ subst P (sym x) (list_any_at (λ q. has_onset q own) parts i p lt (subst Q at mine.is))
      ];
      least = λ v on. elim (either_is (any_onset (take i parts) v) (has_onset (get_or parts i p) v)
          (sym (list_any_more (λ q. has_onset q v) parts i p lt) ∙ on)) [
            | inl x ↦ let from = h.least v x in omega (arith, signed_arith, low, from)
            | inr x ↦ let from = mine.least v (ap (λ q. has_onset q v) at ∙ x) in omega (arith, signed_arith, also, from)
          ];
    }
