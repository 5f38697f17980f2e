-- The changes of a range in two parts, and as they come again with the calendar.
use Rattle.std.proofs.Common.{◌≡◌, ℕ, zero, suc, ◌+◌, ◌-◌, List, [], ◌∷◌, ◌++◌, map, Bool, true, false, not, cond, refl, sym, ap, ap₂, ◌∙◌, arith}
use Rattle.std.proofs.Common.{ℤ, pos, ◌+ℤ◌, ◌-ℤ◌, ◌≤ℤ◌, ◌<ℤ◌, unsigned_abs}
use Rattle.jiff_core.proofs.SignedLemmas.{signed_arith, one_part}
use Rattle.td_civil.specs.Cycles.{RepeatsFrom, observance_later}
use Rattle.td_civil.specs.SameLocal.{same_local}
use Rattle.td_civil.specs.declared.moment_type.TheConstants.{CYCLE, HI}
use Rattle.td_civil.specs.declared.local_time.Local.{Local}
use Rattle.td_civil.specs.declared.local_time.Observance.{Observance}
use Rattle.zone_meaning.specs.Observed.{is_change, observance, change_at, first_at, changes_after, changes_between, observed}

-- ---- in two parts

part_first : (b : Bool) (o : Observance) (whole first rest : List Observance) → whole ≡ first ++ rest
    → cond b (o ∷ whole) whole ≡ cond b (o ∷ first) first ++ rest
part_first true o whole first rest is = ap (λ os. o ∷ os) is
part_first false o whole first rest is = is

changes_split : (state : ℤ → Local) (k n : ℕ) (t u : ℤ) → u ≡ t +ℤ pos k → changes_after state t (k + n) ≡ changes_after state t k ++ changes_after state u n
unfolding changes_after
changes_split state zero n t u is =
    let same : u ≡ t = omega (arith, signed_arith, is) in
    let none : 0 + n ≡ n = omega arith in
    rw (same, none) refl
changes_split state (suc k) n t u is =
    let next = t +ℤ pos 1 in
    let more : suc k + n ≡ suc (k + n) = omega arith in
    rw more
    (part_first (is_change state next) (change_at state next) (changes_after state next (k + n)) (changes_after state next k) (changes_after state u n)
    (changes_split state k n next u (omega (arith, signed_arith, is))))

-- the changes up to a moment of a range, and those after it
pub between_split : (state : ℤ → Local) (t u end : ℤ) → t ≤ℤ u → u <ℤ end
    → changes_between state t end ≡ changes_between state t (u +ℤ pos 1) ++ changes_between state u end
unfolding changes_between
between_split state t u end low high =
    let k = unsigned_abs (u -ℤ t) in
    let n = unsigned_abs (end -ℤ u) - 1 in
    let to_u = one_part (u -ℤ t) in
    let from_u = one_part (end -ℤ u) in
    let past_u = one_part ((u +ℤ pos 1) -ℤ t) in
    let all = one_part (end -ℤ t) in
    let sum : unsigned_abs (end -ℤ t) - 1 ≡ k + n = omega (arith, signed_arith, to_u, from_u, all) in
    let part : unsigned_abs ((u +ℤ pos 1) -ℤ t) - 1 ≡ k = omega (arith, signed_arith, to_u, past_u) in
    ap (changes_after state t) sum ∙ changes_split state k n t u (omega (arith, signed_arith, to_u))
    ∙ ap (λ i. changes_after state t i ++ changes_after state u n) (sym part)

pub observed_split : (state : ℤ → Local) (a u end : ℤ) → a ≤ℤ u → u <ℤ end
    → observed state a end ≡ observed state a (u +ℤ pos 1) ++ changes_between state u end
unfolding observed
observed_split state a u end low high = ap (λ os. first_at state a ∷ os) (between_split state a u end low high)

pub between_of : (state : ℤ → Local) (a b : ℤ) → observed state a b ≡ first_at state a ∷ changes_between state a b
unfolding observed
between_of state a b = refl

-- ---- again

-- the state is the same at a moment and a period later
abbrev IsAgain : (ℤ → Local) → ℤ → Type 0
IsAgain state v = state (v +ℤ CYCLE) ≡ state v

shifted : (t u : ℤ) → u ≡ t +ℤ CYCLE → (u +ℤ pos 1) ≡ (t +ℤ pos 1) +ℤ CYCLE
shifted t u is = omega (arith, signed_arith, is)

change_by : (state : ℤ → Local) (v w : ℤ) → w ≡ v +ℤ CYCLE → IsAgain state v → IsAgain state (v -ℤ pos 1) → is_change state w ≡ is_change state v
change_by state v w is here before =
    let back : w -ℤ pos 1 ≡ (v -ℤ pos 1) +ℤ CYCLE = omega (arith, signed_arith, is) in
    ap₂ (λ x y. not (same_local x y)) (ap state is ∙ here) (ap state back ∙ before)

change_later : (state : ℤ → Local) (v w : ℤ) → w ≡ v +ℤ CYCLE → IsAgain state v → IsAgain state (v -ℤ pos 1)
    → change_at state w ≡ observance_later (change_at state v)
unfolding change_at
change_later state v w is here before =
    let back : w -ℤ pos 1 ≡ (v -ℤ pos 1) +ℤ CYCLE = omega (arith, signed_arith, is) in
    ap₂ (λ (x y : Local). observance w x.offset y) (ap state back ∙ before) (ap state is ∙ here)
    ∙ ap (λ k. observance k (state (v -ℤ pos 1)).offset (state v)) is

one_later : (b c : Bool) (o p : Observance) (os ps : List Observance) → b ≡ c → p ≡ observance_later o → ps ≡ map observance_later os
    → cond b (p ∷ ps) ps ≡ map observance_later (cond c (o ∷ os) os)
one_later b true o p os ps is one rest = rw (is, one, rest) refl
one_later b false o p os ps is one rest = rw (is, rest) refl

changes_later : (state : ℤ → Local) (n : ℕ) (t u : ℤ) → u ≡ t +ℤ CYCLE → ((v : ℤ) → t ≤ℤ v → v ≤ℤ (t +ℤ pos n) → IsAgain state v)
    → changes_after state u n ≡ map observance_later (changes_after state t n)
unfolding changes_after
changes_later state zero t u is again = refl
changes_later state (suc n) t u is again =
    let next = t +ℤ pos 1 in
    let here = again next (omega (arith, signed_arith)) (omega (arith, signed_arith)) in
    let back : next -ℤ pos 1 ≡ t = omega (arith, signed_arith) in
    let before : IsAgain state (next -ℤ pos 1) = rw back (again t (omega (arith, signed_arith)) (omega (arith, signed_arith))) in
    one_later (is_change state (u +ℤ pos 1)) (is_change state next) (change_at state next) (change_at state (u +ℤ pos 1))
    (changes_after state next n) (changes_after state (u +ℤ pos 1) n)
    (change_by state next (u +ℤ pos 1) (shifted t u is) here before)
    (change_later state next (u +ℤ pos 1) (shifted t u is) here before)
    (changes_later state n next (u +ℤ pos 1) (shifted t u is) (λ v low high. again v (omega (arith, signed_arith)) (omega (arith, signed_arith))))

-- the changes of a range come again a period later
pub between_later : (state : ℤ → Local) (t u end later : ℤ) → RepeatsFrom state t → t <ℤ end → u ≡ t +ℤ CYCLE → later ≡ end +ℤ CYCLE → later ≤ℤ HI
    → changes_between state u later ≡ map observance_later (changes_between state t end)
unfolding changes_between
between_later state t u end later repeats before from to last =
    let n = unsigned_abs (end -ℤ t) - 1 in
    let is = one_part (end -ℤ t) in
    let same : unsigned_abs (later -ℤ u) - 1 ≡ n = omega (arith, signed_arith, is, one_part (later -ℤ u), from, to) in
    ap (changes_after state u) same
    ∙ changes_later state n t u from (λ v low high. repeats v low (omega (arith, signed_arith, is, to, last)))
