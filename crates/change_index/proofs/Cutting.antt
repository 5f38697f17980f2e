-- What passes a test is the end of a list whose first items fail it and whose other items pass.
use Rattle.std.proofs.Common.{◌≡◌, ℕ, zero, suc, ◌<◌, ◌≤◌, ◌+◌, ◌-◌, Bool, true, false, not, List, [], ◌∷◌, refl, ap, ◌∙◌, arith, add-one, length, drop, take, get_or}
use Rattle.std.proofs.Common.{nat_le, nat_lt}
use Rattle.std.proofs.lemmas.Bool.{le-ltb, lt-ltb, leb-true, leb-false}
use Rattle.std.proofs.lemmas.List.{length-drop, take_rest}
use Rattle.std.specs.List.{AllByRecursion, AllWithin, filter}
use Rattle.std.specs.List.Sorted.{IsNonDecreasingBy, IsPartitionPoint, IsPartitionedBy}
use Rattle.std.proofs.lemmas.List.Sorted.{IsPartitionedBy-leb}
use Rattle.change_index.specs.Keeping.{kept_of, placed_from}
use Rattle.change_index.specs.declared.placed.Placed.{Placed}
use Rattle.change_index.proofs.Sorting.{NeverFalls, never_falls}

all_pass_on : {X : Type 0} (p : X → Bool) (xs : List X) → AllWithin (λ x. p x ≡ true) xs 0 (length xs) → filter p xs ≡ xs
all_pass_on p [] pass = refl
all_pass_on p (x ∷ xs) pass =
    let first : p x ≡ true = pass 0 x (omega arith) (omega arith) in
    rw first (ap (λ ys. x ∷ ys) (all_pass_on p xs (λ k d low high. rw (add-one k) at (pass (k + 1) d (omega arith) (omega arith)))))

-- the first i items fail, and the others pass
pub passing_end : {X : Type 0} (p : X → Bool) (xs : List X) (i : ℕ) → AllWithin (λ x. p x ≡ false) xs 0 i → AllWithin (λ x. p x ≡ true) xs i (length xs)
    → i ≤ length xs → filter p xs ≡ drop i xs
passing_end p xs zero fail pass within = all_pass_on p xs pass
passing_end p [] (suc i) fail pass within = absurd (omega arith)
passing_end p (x ∷ xs) (suc i) fail pass within =
    let first : p x ≡ false = fail 0 x (omega arith) (omega arith) in
    rw first (passing_end p xs i
    (λ k d low high. rw (add-one k) at (fail (k + 1) d (omega arith) (omega arith)))
    (λ k d low high. rw (add-one k) at (pass (k + 1) d (omega arith) (omega arith)))
    (omega arith))

pub above_is : (m n : ℕ) → nat_lt n m ≡ not (nat_le m n)
above_is m n = by (nat_le m n) refl
  where
    by : (b : Bool) → nat_le m n ≡ b → nat_lt n m ≡ not b
    by true e = le-ltb n m (leb-true m n e)
    by false e = lt-ltb n m (leb-false m n e)

at_first : {X : Type 0} (number : X → ℕ) (m : ℕ) (xs : List X) (j : ℕ) (d : X) → AllByRecursion (λ y. m ≤ number y) xs → j < length xs → m ≤ number (get_or xs j d)
at_first number m [] j d all within = absurd (omega arith)
at_first number m (x ∷ xs) zero d all within = all.0
at_first number m (x ∷ xs) (suc j) d all within = at_first number m xs j d all.1 (omega arith)

non_decreasing : {X : Type 0} (number : X → ℕ) (xs : List X) → NeverFalls number xs → IsNonDecreasingBy number xs
non_decreasing number [] falls i j d le within = absurd (omega arith)
non_decreasing number (x ∷ xs) falls zero zero d le within = omega arith
non_decreasing number (x ∷ xs) falls zero (suc j) d le within = at_first number (number x) xs j d falls.0 (omega arith)
non_decreasing number (x ∷ xs) falls (suc i) zero d le within = absurd (omega arith)
non_decreasing number (x ∷ xs) falls (suc i) (suc j) d le within = non_decreasing number xs falls.1 i j d (omega arith) (omega arith)

-- what is kept can be searched
pub searchable : (ns : List ℕ) (n : ℕ) → IsPartitionedBy (λ (p : Placed). nat_le p.change n) (kept_of ns)
unfolding kept_of
searchable ns n =
    IsPartitionedBy-leb (λ (p : Placed). p.change) (kept_of ns) n
    (non_decreasing (λ (p : Placed). p.change) (kept_of ns) (never_falls (λ (p : Placed). p.change) (placed_from 0 ns)))

-- where the search ends, what is above begins
pub cut_above : (kept : List Placed) (n i : ℕ) → IsPartitionPoint (λ (p : Placed). nat_le p.change n ≡ true) (λ (p : Placed). nat_le p.change n ≡ false) kept i
    → i ≤ length kept → filter (λ (p : Placed). nat_lt n p.change) kept ≡ drop i kept
cut_above kept n i point within =
    passing_end (λ (p : Placed). nat_lt n p.change) kept i
    (λ k d low high. above_is (get_or kept k d).change n ∙ ap not (point.0 k d low high))
    (λ k d low high. above_is (get_or kept k d).change n ∙ ap not (point.1 k d low high))
    within

-- the end of a list, as a range gives it
pub end_of : {X : Type 0} (xs : List X) (i : ℕ) → take (length xs - i) (drop i xs) ≡ drop i xs
end_of xs i = take_rest xs i

-- and what is an end of a list is so by its length
pub suffix_of : {X : Type 0} (ends kept whole : List X) (i : ℕ) → ends ≡ drop i kept → kept ≡ whole → i ≤ length kept
    → ends ≡ drop (length whole - length ends) whole
suffix_of ends kept whole i is same within =
    let long : i ≡ length kept - length ends = omega (arith, within, ap length is, length-drop i kept) in
    is ∙ ap (λ k. drop k kept) long ∙ ap (λ w. drop (length w - length ends) w) same
