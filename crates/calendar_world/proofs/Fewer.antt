-- A state changes at no more moments than a list has that holds all its changes.
use Rattle.std.proofs.Common.{◌≡◌, ◌⊎◌, inl, inr, ℕ, zero, suc, ◌-◌, ◌≤◌, true, List, [], ◌∷◌, length, refl, sym, ◌∙◌, arith, ℤ, pos, ◌+ℤ◌, ◌-ℤ◌, ◌≤ℤ◌, ◌<ℤ◌}
use Rattle.std.proofs.Common.{unsigned_abs}
use Rattle.std.proofs.lemmas.Bool.{cond_both}
use Rattle.jiff_core.proofs.SignedLemmas.{signed_arith, one_part}
use Rattle.td_civil.specs.declared.local_time.Local.{Local}
use Rattle.td_civil.specs.declared.local_time.Observance.{Observance}
use Rattle.zone_meaning.specs.Observed.{change_at, changes_after, changes_between, is_change, observed}

abbrev pub IsAmong : List ℤ → ℤ → Type 0
IsAmong [] v = ⊥
IsAmong (x ∷ xs) v = (x ≡ v) ⊎ IsAmong xs v

-- a list with one item less
record IsWithout (xs ys : List ℤ) (t : ℤ) : Type 0 where
  one : suc (length ys) ≡ length xs
  others : (v : ℤ) → IsAmong xs v → (v ≡ t → ⊥) → IsAmong ys v

without : (xs : List ℤ) (t : ℤ) → IsAmong xs t → (ys : List ℤ) × IsWithout xs ys t
without [] t there = absurd there
without (x ∷ xs) t there =
    elim there [
      | inl is ↦ (
        xs,
        record {
          one = refl;
          others = λ v among other. elim among [
            | inl same ↦ absurd (other (sym same ∙ is))
            | inr later ↦ later
          ];
        },
      )
      | inr later ↦
          let rest = without xs t later in
          let count = rest.1.one in (
            x ∷ rest.0,
            record {
              one = omega (arith, count);
              others = λ v among other. elim among [
                | inl same ↦ inl same
                | inr after ↦ inr (rest.1.others v after other)
              ];
            },
          )
    ]

few_after : (state : ℤ → Local) (cs : List ℤ) (n : ℕ) (t : ℤ)
    → ((v : ℤ) → t <ℤ v → v ≤ℤ (t +ℤ pos n) → is_change state v ≡ true → IsAmong cs v) → length (changes_after state t n) ≤ length cs
unfolding changes_after
few_after state cs zero t all = omega arith
few_after state cs (suc n) t all =
    let next = t +ℤ pos 1 in
    let rest = changes_after state next n in
    cond_both (is_change state next) (change_at state next ∷ rest) rest (λ (xs : List Observance). length xs ≤ length cs)
    (λ changes.
    let less = without cs next (all next (omega (arith, signed_arith)) (omega (arith, signed_arith)) changes) in
    let fewer = few_after state less.0 n next (λ v low high change. less.1.others v
    (all v (omega (arith, signed_arith, low)) (omega (arith, signed_arith, high)) change) (λ same. absurd (omega (arith, signed_arith, low, same)))) in
    let count = less.1.one in
    omega (arith, fewer, count))
    (λ stays. few_after state cs n next (λ v low high change. all v (omega (arith, signed_arith, low)) (omega (arith, signed_arith, high)) change))

-- the observances of a range are at most one more
pub few_observed : (state : ℤ → Local) (cs : List ℤ) (a b : ℤ) → a <ℤ b
    → ((v : ℤ) → a <ℤ v → v <ℤ b → is_change state v ≡ true → IsAmong cs v) → length (observed state a b) ≤ suc (length cs)
unfolding observed changes_between
few_observed state cs a b range all =
    let n = unsigned_abs (b -ℤ a) - 1 in
    let is = one_part (b -ℤ a) in
    let fewer = few_after state cs n a (λ v low high change. all v low (omega (arith, signed_arith, is, range, high)) change) in
    omega (arith, fewer)
