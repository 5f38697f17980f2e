-- The transitions that are not after a moment are the first ones, so that a search by halves counts
-- them.
use Rattle.std.proofs.Common.{◌≡◌, ℕ, zero, suc, ◌+◌, ◌-◌, ◌<◌, ◌≤◌, Bool, true, false, cond, List, [], ◌∷◌, length, get_or, refl, ◌∙◌, subst, arith}
use Rattle.std.specs.Prelude.{ℤ, pos, ◌≤ℤ◌, ◌<ℤ◌, int_le}
use Rattle.std.specs.List.{count_by}
use Rattle.std.specs.List.Sorted.{IsPartitionedBy, IsPartitionPoint}
use Rattle.std.proofs.lemmas.Int.{ints}
use Rattle.std.proofs.lemmas.List.Sums.{sum_by-cons}
use Rattle.td_civil.specs.declared.moment_type.Moment.{Moment}
use Rattle.tzif_reader.specs.Layout.{AreRising}
use Rattle.zone_meaning.specs.State.{begun}
use Rattle.zone_meaning.specs.Walks.{HaveBegun}

counted : {X : Type 0} (p : X → Bool) (x : X) (xs : List X) (n : ℕ) → p x ≡ true → count_by p xs ≡ n → count_by p (x ∷ xs) ≡ suc n
counted p x xs n passes h = sum_by-cons (λ y. cond (p y) 1 0) x xs ∙ rw (passes, h) (omega arith)

skipped : {X : Type 0} (p : X → Bool) (x : X) (xs : List X) (n : ℕ) → p x ≡ false → count_by p xs ≡ n → count_by p (x ∷ xs) ≡ n
skipped p x xs n fails h = sum_by-cons (λ y. cond (p y) 1 0) x xs ∙ rw (fails, h) (omega arith)

-- where the first n pass and no other does, n are counted
pub count_of_first : {X : Type 0} (p : X → Bool) (xs : List X) (n : ℕ) (d : X) → n ≤ length xs → ((k : ℕ) → k < n → p (get_or xs k d) ≡ true)
    → ((k : ℕ) → n ≤ k → k < length xs → p (get_or xs k d) ≡ false) → count_by p xs ≡ n
count_of_first p [] n d le pass fail = let z : n ≡ 0 = omega arith in rw z refl
count_of_first p (x ∷ xs) zero d le pass fail =
    skipped p x xs 0 (fail 0 (omega arith) (omega arith))
    (count_of_first p xs 0 d (omega arith) (λ k lt. absurd (omega arith)) (λ k low high. fail (suc k) (omega arith) (omega arith)))
count_of_first p (x ∷ xs) (suc n) d le pass fail =
    counted p x xs n (pass 0 (omega arith))
    (count_of_first p xs n d (omega arith) (λ k lt. pass (suc k) (omega arith)) (λ k low high. fail (suc k) (omega arith) (omega arith)))

step_up : (a b c : ℤ) → a ≤ℤ b → b <ℤ c → a ≤ℤ c
step_up a b c h k = omega (arith, ints)

same : (a : ℤ) → a ≤ℤ a
same a = omega (arith, ints)

rising_by : (xs : List Moment) → AreRising xs → (i n : ℕ) (d : Moment) → i + n < length xs → (get_or xs i d).seconds ≤ℤ (get_or xs (i + n) d).seconds
rising_by xs up i zero d lt = let e : i + 0 ≡ i = omega arith in rw e (same _)
rising_by xs up i (suc n) d lt = let e : i + suc n ≡ suc (i + n) = omega arith in
    rw e (step_up _ _ _ (rising_by xs up i n d (omega arith)) (up (i + n) d (omega arith)))

pub rising_le : (xs : List Moment) → AreRising xs → (i j : ℕ) (d : Moment) → i ≤ j → j < length xs → (get_or xs i d).seconds ≤ℤ (get_or xs j d).seconds
rising_le xs up i j d le lt =
    let e : i + (j - i) ≡ j = omega arith in
    subst (λ (k : ℕ). (get_or xs i d).seconds ≤ℤ (get_or xs k d).seconds) e (rising_by xs up i (j - i) d (omega arith))

le_test : (a b t : ℤ) → a ≤ℤ b → int_le b t ≡ true → int_le a t ≡ true
le_test a b t h k = grind (arith, ints)

pub begun_first : (xs : List Moment) (t : ℤ) → AreRising xs → IsPartitionedBy (λ m. int_le m.seconds t) xs
begun_first xs t up i j d le lt h = le_test _ _ t (rising_le xs up i j d le lt) h

nothing : Moment
nothing = record { seconds = pos 0 }

pub begun_count : (xs : List Moment) (t : ℤ) (n : ℕ) → n ≤ length xs
    → IsPartitionPoint (λ m. int_le m.seconds t ≡ true) (λ m. int_le m.seconds t ≡ false) xs n → begun t xs ≡ n
begun_count xs t n le h = count_of_first (λ m. int_le m.seconds t) xs n nothing le (λ k lt. h.0 k nothing (omega arith) lt)
    (λ k low high. h.1 k nothing low high)

passes : (a b t : ℤ) → a ≤ℤ b → b ≤ℤ t → int_le a t ≡ true
passes a b t h k = grind (arith, ints)

fails : (a b t : ℤ) → t <ℤ a → a ≤ℤ b → int_le b t ≡ false
fails a b t h k = grind (arith, ints)

-- n transitions have begun where the last of them has, and the one after it has not
pub begun_are : (xs : List Moment) (t : ℤ) (n : ℕ) (d : Moment) → AreRising xs → n ≤ length xs → ((k : ℕ) → suc k ≡ n → (get_or xs k d).seconds ≤ℤ t)
    → (n < length xs → t <ℤ (get_or xs n d).seconds) → begun t xs ≡ n
begun_are xs t zero d up le last next =
    count_of_first (λ m. int_le m.seconds t) xs 0 d le (λ k lt. absurd (omega arith))
    (λ k low high. fails _ _ t (next (omega arith)) (rising_le xs up 0 k d low high))
begun_are xs t (suc n) d up le last next =
    count_of_first (λ m. int_le m.seconds t) xs (suc n) d le
    (λ k lt. passes _ _ t (rising_le xs up k n d (omega arith) (omega arith)) (last n refl))
    (λ k low high. fails _ _ t (next (omega arith)) (rising_le xs up (suc n) k d low high))

-- so a search by halves finds where those that have come end
pub have_begun : (xs : List Moment) (t : ℤ) (n : ℕ) → n ≤ length xs
    → IsPartitionPoint (λ m. int_le m.seconds t ≡ true) (λ m. int_le m.seconds t ≡ false) xs n → HaveBegun xs t n
have_begun xs t n le h = record {
  bound = le;
  last = λ k d e. let passes = h.0 k d (omega arith) (omega arith) in omega (arith, ints);
  next = λ d lt. let fails = h.1 n d (omega arith) lt in omega (arith, ints);
}
