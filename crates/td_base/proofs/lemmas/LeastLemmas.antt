-- The search for the least number, a step at a time.
use Rattle.std.proofs.Common.{◌≡◌, ℕ, zero, suc, ◌+◌, ◌-◌, ◌<◌, ◌≤◌, Bool, true, false, cond}
use Rattle.std.proofs.Common.{[], ◌∷◌, Option, Some, None, refl, sym, subst, inl, inr, ◌∙◌, arith}
use Rattle.std.proofs.lemmas.Bool.{cases_lt}
use Rattle.std.specs.Prelude.{find}
use Rattle.std.specs.List.{range_with_len}

-- the numbers from i on, below n
range_more : (i n : ℕ) → i < n → range_with_len i (n - i) ≡ i ∷ range_with_len (i + 1) (n - (i + 1))
range_more i n lt = let k : n - i ≡ suc (n - (i + 1)) = omega arith in rw k refl

range_done : (i n : ℕ) → n ≤ i → range_with_len i (n - i) ≡ []
range_done i n le = let k : n - i ≡ 0 = omega arith in rw k refl

pub least_step : (test : ℕ → Bool) (i n : ℕ) (r : Option ℕ) → i < n → test i ≡ false
    → find test (range_with_len i (n - i)) ≡ r → find test (range_with_len (i + 1) (n - (i + 1))) ≡ r
least_step test i n r lt fails h =
    let e : find test (range_with_len i (n - i)) ≡ find test (range_with_len (i + 1) (n - (i + 1))) = rw (range_more i n lt, fails) refl in
    sym e ∙ h

pub least_found : (test : ℕ → Bool) (i n : ℕ) (r : Option ℕ) → i < n → test i ≡ true → find test (range_with_len i (n - i)) ≡ r → Some i ≡ r
least_found test i n r lt holds h =
    let e : find test (range_with_len i (n - i)) ≡ Some i = rw (range_more i n lt, holds) refl in
    sym e ∙ h

pub least_none : (test : ℕ → Bool) (i n : ℕ) (r : Option ℕ) → n ≤ i → find test (range_with_len i (n - i)) ≡ r → None ≡ r
least_none test i n r le h =
    let e : find test (range_with_len i (n - i)) ≡ None = rw (range_done i n le) refl in sym e ∙ h

clear_here : (a : Bool) (i : ℕ) (rest : Option ℕ) → cond a (Some i) rest ≡ None → (a ≡ false) × (rest ≡ None)
clear_here true i rest h = absurd cc
clear_here false i rest h = (refl, h)

clear_from : (test : ℕ → Bool) (start count i : ℕ) → find test (range_with_len start count) ≡ None → start ≤ i → i < start + count → test i ≡ false
clear_from test start zero i h low high = absurd (omega arith)
clear_from test start (suc count) i h low high =
    let here = clear_here (test start) start (find test (range_with_len (start + 1) count)) h in
    elim (cases_lt start i) [
      | inl lt ↦ clear_from test (start + 1) count i here.1 (omega arith) (omega arith)
      | inr le ↦ let same : start ≡ i = omega arith in subst (λ k. test k ≡ false) same here.0
    ]

pub least_clear : (test : ℕ → Bool) (i n : ℕ) → i < n → find test (range_with_len 0 n) ≡ None → test i ≡ false
least_clear test i n lt h = clear_from test 0 n i h (omega arith) (omega arith)

none_from : (test : ℕ → Bool) (start count : ℕ) → ((i : ℕ) → start ≤ i → i < start + count → test i ≡ false)
    → find test (range_with_len start count) ≡ None
none_from test start zero each = refl
none_from test start (suc count) each =
    let here : test start ≡ false = each start (omega arith) (omega arith) in
    let more = none_from test (start + 1) count (λ i low high. each i (omega arith) (omega arith)) in
    rw (here) more

pub none_least : (test : ℕ → Bool) (n : ℕ) → ((i : ℕ) → i < n → test i ≡ false) → find test (range_with_len 0 n) ≡ None
none_least test n each = none_from test 0 n (λ i low high. each i (omega arith))
