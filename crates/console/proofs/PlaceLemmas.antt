-- The place of the first line feed.
use Rattle.std.proofs.Common.{◌≡◌, ◌+◌, ℕ, Option, suc, ◌⊎◌, inl, inr, Bool, true, false, List, [], ◌∷◌, length, take, drop, ltb, cond, Some, None, refl, sym}
use Rattle.std.proofs.Common.{ap, ◌∙◌, arith}
use Rattle.std.specs.List.{position, position_or_len, before_first, after_first, list_any}
use Rattle.std.specs.Option.{IsSome}
use Rattle.std.proofs.lemmas.Bool.{cases_Bool, lt-ltb, true≢false}
use Rattle.std.proofs.lemmas.Bool.Decides.{nat_tests}
use Rattle.std.proofs.lemmas.Option.{none-some, same_Some}
use Rattle.console.specs.Lines.{is_feed_byte, has_feed}

shift : (k n : ℕ) → ltb k n ≡ ltb (1 + k) (suc n)
shift k n = grind (arith, nat_tests)

one_more : (k : ℕ) → 1 + k ≡ suc k
one_more k = omega arith

-- the first byte passes, or not
pub before_here : (p : ℕ → Bool) (x : ℕ) (xs : List ℕ) → p x ≡ true → before_first p (x ∷ xs) ≡ []
before_here p x xs e = rw e refl

pub after_here : (p : ℕ → Bool) (x : ℕ) (xs : List ℕ) → p x ≡ true → after_first p (x ∷ xs) ≡ xs
after_here p x xs e = rw e refl

pub before_later : (p : ℕ → Bool) (x : ℕ) (xs : List ℕ) → p x ≡ false → before_first p (x ∷ xs) ≡ x ∷ before_first p xs
before_later p x xs e = rw e (ap (λ n. take n (x ∷ xs)) (one_more (position_or_len p xs)))

pub after_later : (p : ℕ → Bool) (x : ℕ) (xs : List ℕ) → p x ≡ false → after_first p (x ∷ xs) ≡ after_first p xs
after_later p x xs e =
    let same : 1 + position_or_len p xs + 1 ≡ suc (position_or_len p xs + 1) = omega arith in
    rw e (ap (λ n. drop n (x ∷ xs)) same)

-- there is one where its place is within the list
any_place : (p : ℕ → Bool) (xs : List ℕ) → list_any p xs ≡ ltb (position_or_len p xs) (length xs)
any_place p [] = refl
any_place p (x ∷ xs) = by_test (any_place p xs) (cases_Bool (p x))
  where
    by_test : list_any p xs ≡ ltb (position_or_len p xs) (length xs) → (p x ≡ true) ⊎ (p x ≡ false)
        → list_any p (x ∷ xs) ≡ ltb (position_or_len p (x ∷ xs)) (length (x ∷ xs))
    by_test later (inl e) = rw e (sym (lt-ltb 0 (length (x ∷ xs)) (omega arith)))
    by_test later (inr e) = rw e (later ∙ shift (position_or_len p xs) (length xs))

place_by : (t : Bool) (at place : ℕ) → cond t (Some place) None ≡ Some at → (t ≡ true) × (place ≡ at)
place_by true at place e = (refl, same_Some place at e)
place_by false at place e = absurd (none-some at e)

none_by : (t : Bool) (place : ℕ) → cond t (Some place) None ≡ None → t ≡ false
none_by true place e = absurd (none-some place (sym e))
none_by false place e = refl

-- a line ends there
pub at_feed : (bytes : List ℕ) (at : ℕ) → position is_feed_byte bytes ≡ Some at
    → (has_feed bytes ≡ true) × (take at bytes ≡ before_first is_feed_byte bytes) × (drop (at + 1) bytes ≡ after_first is_feed_byte bytes)
at_feed bytes at e =
    let parts : (ltb (position_or_len is_feed_byte bytes) (length bytes) ≡ true) × (position_or_len is_feed_byte bytes ≡ at) =
    place_by (ltb (position_or_len is_feed_byte bytes) (length bytes)) at (position_or_len is_feed_byte bytes) e in
    (any_place is_feed_byte bytes ∙ parts.0, ap (λ n. take n bytes) (sym parts.1), ap (λ n. drop (n + 1) bytes) (sym parts.1))

-- no line ends
pub no_feed : (bytes : List ℕ) → position is_feed_byte bytes ≡ None → has_feed bytes ≡ false
no_feed bytes e = any_place is_feed_byte bytes ∙ none_by (ltb (position_or_len is_feed_byte bytes) (length bytes)) (position_or_len is_feed_byte bytes) e

-- where a line ends, there is a place at which the first does
pub some_place : (bytes : List ℕ) (place : Option ℕ) → place ≡ position is_feed_byte bytes → has_feed bytes ≡ true → IsSome place
some_place bytes (Some at) e feed = refl
some_place bytes None e feed = absurd (true≢false (sym feed ∙ no_feed bytes (sym e)))
