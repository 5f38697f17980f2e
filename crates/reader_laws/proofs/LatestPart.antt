-- The latest part at a moment gives the state.
use Rattle.std.proofs.Common.{◌≡◌, ℕ, zero, suc, ◌<◌, List, [], ◌∷◌, true, false, None, Some, refl, ap, subst, ◌∙◌, arith}
use Rattle.std.specs.Prelude.{ℤ, pos, negsuc, ◌+ℤ◌, ◌-ℤ◌, ◌≤ℤ◌, ◌<ℤ◌, unsigned_abs}
use Rattle.std.specs.List.{slice_get}
use Rattle.std.proofs.lemmas.Int.{by_lt_z}
use Rattle.jiff_core.proofs.SignedLemmas.{signed_arith}
use Rattle.td_civil.specs.declared.moment_type.TheConstants.{LO}
use Rattle.recurrence.specs.InForce.{state_of_part}
use Rattle.recurrence.specs.declared.part_types.Part.{Part}
use Rattle.vtimezone_reader.specs.Onsets.{begun_at, calendar_state, has_onset, state_since}
use Rattle.reader_laws.specs.Latest.{IsLatestOnset}
use Rattle.reader_laws.proofs.OnsetTests.{is_onset, onset_passes}
use Rattle.reader_laws.proofs.Tests.{not_true}

-- no part has an onset at t
abbrev HasNone : List Part → ℤ → Type 0
HasNone parts t = (k : ℕ) (other : Part) → slice_get parts k ≡ Some other → has_onset other t ≡ false

none_begun : (parts : List Part) (t : ℤ) → HasNone parts t → begun_at parts t ≡ None
unfolding begun_at
none_begun [] t none = refl
none_begun (p ∷ ps) t none = rw (none_begun ps t (λ k other there. none (suc k) other there), none 0 p refl) refl

one_begun : (parts : List Part) (t : ℤ) (place : ℕ) (p : Part) → slice_get parts place ≡ Some p → has_onset p t ≡ true
    → ((k : ℕ) (other : Part) → place < k → slice_get parts k ≡ Some other → has_onset other t ≡ false) → begun_at parts t ≡ Some p
unfolding begun_at
one_begun [] t place p there onset last = absurd cc
one_begun (q ∷ ps) t zero p there onset last =
    let same : q ≡ p = cc in
    let here : has_onset q t ≡ true = ap (λ (x : Part). has_onset x t) same ∙ onset in
    rw (none_begun ps t (λ k other at. last (suc k) other (omega arith) at), here) (ap Some same)
one_begun (q ∷ ps) t (suc place) p there onset last = rw (one_begun ps t place p there onset (λ k other lt at. last (suc k) other (omega arith) at)) refl

module _ (parts : List Part) (place : ℕ) (p : Part) (m : ℤ) (there : slice_get parts place ≡ Some p) (onset : has_onset p m ≡ true)
    (last : (k : ℕ) (other : Part) → place < k → slice_get parts k ≡ Some other → has_onset other m ≡ false) where
  abbrev IsGreatest : ℤ → Type 0
  IsGreatest t = (k : ℕ) (other : Part) (v : ℤ) → slice_get parts k ≡ Some other → has_onset other v ≡ true → v ≤ℤ t → v ≤ℤ m

  none_at : (t : ℤ) → IsGreatest t → m <ℤ t → HasNone parts t
  none_at t greatest later k other at =
      not_true (has_onset other t) (λ passes. let before = greatest k other t at passes (omega (arith, signed_arith)) in omega (arith, signed_arith))

  since : (n : ℕ) (t : ℤ) → t <ℤ (m +ℤ pos n) → m ≤ℤ t → IsGreatest t → state_since parts n t ≡ state_of_part p
  unfolding state_since
  since zero t low high greatest = absurd (omega (arith, signed_arith))
  since (suc n) t low high greatest =
      by_lt_z m t
      (λ later.
      rw (none_begun parts t (none_at t greatest later))
      (since n (t -ℤ pos 1) (omega (arith, signed_arith)) (omega (arith, signed_arith)) (λ k other v at passes le. greatest k other v at passes (omega (arith, signed_arith)))))
      (λ now. let same : m ≡ t = omega (arith, signed_arith) in
      let P : ℤ → Type 0 = λ x. begun_at parts x ≡ Some p in
      rw (subst P same (one_begun parts m place p there onset last)) refl)

abs_is : (z : ℤ) → pos 0 ≤ℤ z → pos (unsigned_abs z) ≡ z
abs_is (pos n) low = refl
abs_is (negsuc n) low = absurd (omega (arith, signed_arith))

pub latest_gives : (parts : List Part) (t m : ℤ) (place : ℕ) (p : Part) → IsLatestOnset parts t place p m
    → calendar_state parts t ≡ record { offset = p.to; dst = p.dst; name = p.name }
unfolding calendar_state
latest_gives parts t m place p is =
    let meant = is.meant in
    let begun = is.begun in
    let count = abs_is ((t +ℤ pos 1) -ℤ LO) (omega (arith, signed_arith)) in
    since parts place p m is.there (onset_passes p m is.onset)
    (λ k other lt at. not_true (has_onset other m) (λ passes. is.last k other lt at (is_onset other m passes)))
    (unsigned_abs ((t +ℤ pos 1) -ℤ LO)) t (omega (arith, signed_arith, count)) begun
    (λ k other v at passes le. is.greatest k other v at (is_onset other v passes) le)
