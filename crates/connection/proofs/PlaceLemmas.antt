-- Places that never fall, also from one connection to the next.
use Rattle.std.proofs.Common.{ℕ, ◌≤◌, List, [], ◌∷◌, ◌++◌, arith}
use Rattle.std.specs.List.{AllByRecursion}
use Rattle.connection.specs.Served.{NeverFall}

pub all_append : {A : Type 0} (P : A → Type 0) (xs ys : List A) → AllByRecursion P xs → AllByRecursion P ys → AllByRecursion P (xs ++ ys)
all_append P [] ys p q = q
all_append P (x ∷ xs) ys p q = (p.0, all_append P xs ys p.1 q)

pub all_weaker : {A : Type 0} (P Q : A → Type 0) (xs : List A) → ((x : A) → P x → Q x) → AllByRecursion P xs → AllByRecursion Q xs
all_weaker P Q [] w p = tt
all_weaker P Q (x ∷ xs) w p = (w x p.0, all_weaker P Q xs w p.1)

-- places up to a number, and then places from it on
pub fall_append : (n : ℕ) (xs ys : List ℕ) → NeverFall xs → AllByRecursion (λ p. p ≤ n) xs → NeverFall ys → AllByRecursion (λ p. n ≤ p) ys
    → NeverFall (xs ++ ys)
fall_append n [] ys a b c d = c
fall_append n (x ∷ xs) ys a b c d = (
  all_append (λ q. x ≤ q) xs ys a.0 (all_weaker (λ q. n ≤ q) (λ q. x ≤ q) ys (λ q le. omega (arith, le, b.0)) d),
  fall_append n xs ys a.1 b.1 c d,
)
