-- Onsets of parts that are not after a moment.
use Rattle.std.proofs.Common.{◌≡◌, ◌⊎◌, inl, inr, ℕ, ◌<◌, true, ◌||◌, sym, ap, subst, arith, ℤ, ◌≤ℤ◌, Option, None}
use Rattle.std.proofs.Common.{Some, List, [], ◌∷◌, length, get_or}
use Rattle.std.specs.List.{AllByRecursion}
use Rattle.std.specs.Option.{IfSome}
use Rattle.std.specs.Ordering.{int_eq}
use Rattle.std.proofs.lemmas.List.Folds.{list_any_at}
use Rattle.jiff_core.proofs.SignedLemmas.{signed_arith}
use Rattle.td_civil.specs.declared.moment_type.Moment.{Moment}
use Rattle.td_civil.specs.declared.moment_type.TheConstants.{LO}
use Rattle.recurrence.specs.declared.part_types.Part.{Part}
use Rattle.vtimezone_reader.specs.Onsets.{is_among, is_onset_of, has_onset}
use Rattle.vtimezone_reader.specs.Sound.{IsMeant, IsSoundPart}
use Rattle.vtimezone_reader.specs.Turns.{IsOnsetBy, HasBegun}
use Rattle.vtimezone_reader.proofs.LeastOnset.{start_is}
use Rattle.vtimezone_reader.proofs.RuleOnsets.{onset_from_start}
use Rattle.vtimezone_reader.proofs.Tests.{either_is, or_left, or_right, int_same}

among_low : (dates : List Moment) (v : ℤ) → AllByRecursion IsMeant dates → is_among dates v ≡ true → LO ≤ℤ v
among_low [] v h e = absurd (cc)
among_low (d ∷ ds) v h e = elim (either_is (int_eq d.seconds v) (is_among ds v) e) [
  | inl x ↦ let low = h.0.0 in let is = int_same d.seconds v x in omega (arith, signed_arith, low, is)
  | inr x ↦ among_low ds v h.1 x
]

among_onset : (p : Part) (v : ℤ) → is_among p.dates v ≡ true → has_onset p v ≡ true
unfolding has_onset
among_onset p v e =
    or_left (int_eq p.start.seconds v || is_among p.dates v) (is_onset_of p.rule p v) (or_right (int_eq p.start.seconds v) (is_among p.dates v) e)

rule_onset : (p : Part) (v : ℤ) → is_onset_of p.rule p v ≡ true → has_onset p v ≡ true
unfolding has_onset
rule_onset p v e = or_right (int_eq p.start.seconds v || is_among p.dates v) (is_onset_of p.rule p v) e

module _ (p : Part) (t : ℤ) (sound : IsSoundPart p) where
  abbrev Late : Moment → Type 0
  Late m = IsOnsetBy p t m.seconds

  pub late_start : (o : Option Moment) → IfSome o (λ m. (m ≡ p.start) × (m.seconds ≤ℤ t)) → IfSome o Late
  late_start None h = tt
  late_start (Some m) h =
      let P : Moment → Type 0 = λ d. has_onset p d.seconds ≡ true in
      let low = sound.start.0 in
      let is = ap (λ (d : Moment). d.seconds) h.0 in
      record { onset = subst P (sym h.0) (start_is p); by = h.1; low = omega (arith, signed_arith, low, is) }

  pub late_listed : (o : Option Moment) → IfSome o (λ m. (is_among p.dates m.seconds ≡ true) × (m.seconds ≤ℤ t)) → IfSome o Late
  late_listed None h = tt
  late_listed (Some m) h = record { onset = among_onset p m.seconds h.0; by = h.1; low = among_low p.dates m.seconds sound.dates h.0 }

  pub late_ruled : (o : Option Moment) → IfSome o (λ m. (is_onset_of p.rule p m.seconds ≡ true) × (m.seconds ≤ℤ t)) → IfSome o Late
  late_ruled None h = tt
  late_ruled (Some m) h =
      let low = sound.start.0 in
      let from = onset_from_start p m.seconds h.0 in
      record { onset = rule_onset p m.seconds h.0; by = h.1; low = omega (arith, signed_arith, low, from) }

pub one_of : (P : Moment → Type 0) (a b o : Option Moment) → (o ≡ a) ⊎ (o ≡ b) → IfSome a P → IfSome b P → IfSome o P
one_of P a b o (inl is) x y = subst (λ (q : Option Moment). IfSome q P) (sym is) x
one_of P a b o (inr is) x y = subst (λ (q : Option Moment). IfSome q P) (sym is) y

pub begun_by : (parts : List Part) (p : Part) (i : ℕ) (t : ℤ) (o : Option Moment) → i < length parts → p ≡ get_or parts i p
    → IfSome o (λ m. IsOnsetBy p t m.seconds) → IfSome o (λ m. HasBegun parts t m.seconds)
begun_by parts p i t None lt is h = tt
begun_by parts p i t (Some m) lt is h =
    let P : Part → Type 0 = λ q. has_onset q m.seconds ≡ true in
    record { onset = list_any_at (λ q. has_onset q m.seconds) parts i p lt (subst P is h.onset); by = h.by; low = h.low }
