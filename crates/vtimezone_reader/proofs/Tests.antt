-- What tests of two conditions and of whole numbers say.
use Rattle.std.proofs.Common.{◌≡◌, ◌⊎◌, inl, inr, Bool, true, false, ◌||◌, refl, arith, ℤ, ◌≤ℤ◌, ◌<ℤ◌, int_lt}
use Rattle.std.specs.Ordering.{int_eq}
use Rattle.std.proofs.lemmas.Int.{ints}

pub not_true : (b : Bool) → (b ≡ true → ⊥) → b ≡ false
not_true true h = absurd (h refl)
not_true false h = refl

pub either_is : (a b : Bool) → (a || b) ≡ true → (a ≡ true) ⊎ (b ≡ true)
either_is true b e = inl refl
either_is false b e = inr e

pub or_left : (a b : Bool) → a ≡ true → (a || b) ≡ true
or_left a b e = rw e refl

pub or_right : (a b : Bool) → b ≡ true → (a || b) ≡ true
or_right true b e = refl
or_right false b e = e

pub or_parts : (a b : Bool) → (a || b) ≡ false → (a ≡ false) × (b ≡ false)
or_parts true b e = absurd (cc)
or_parts false b e = (refl, e)

pub int_same : (a b : ℤ) → int_eq a b ≡ true → a ≡ b
int_same a b e = grind (arith, ints)

pub int_eq_of : (a b : ℤ) → a ≡ b → int_eq a b ≡ true
int_eq_of a b e = grind (arith, ints)

pub lt_is : (a b : ℤ) → int_lt a b ≡ true → a <ℤ b
lt_is a b e = grind (arith, ints)

pub lt_of : (a b : ℤ) → a <ℤ b → int_lt a b ≡ true
lt_of a b h = grind (arith, ints)

pub not_lt : (a b : ℤ) → int_lt a b ≡ false → b ≤ℤ a
not_lt a b e = grind (arith, ints)
