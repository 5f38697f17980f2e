-- Tests as facts.
use Rattle.std.proofs.Common.{◌≡◌, ◌⊎◌, ℕ, List, Bool, true, false, ◌||◌, inl, inr, refl, sym, ◌∙◌, map, arith}
use Rattle.std.specs.Prelude.{ℤ, ◌≤ℤ◌, int_le}
use Rattle.std.specs.Char.{to_ascii_lowercase}
use Rattle.std.specs.Ordering.{int_eq}
use Rattle.std.specs.Str.{bytes_eq}
use Rattle.std.proofs.lemmas.Int.{ints}
use Rattle.std.proofs.lemmas.Slice.Eq.{bytes_eq-Decides}
use Rattle.vtimezone_reader.specs.ContentLines.{is_word}

pub either : (a b : Bool) → (a || b) ≡ true → (a ≡ true) ⊎ (b ≡ true)
either true b h = inl refl
either false b h = inr h

pub left_or : (a b : Bool) → a ≡ true → (a || b) ≡ true
left_or true b h = refl
left_or false b h = absurd cc

pub right_or : (a b : Bool) → b ≡ true → (a || b) ≡ true
right_or true b h = refl
right_or false b h = h

pub not_true : (b : Bool) → (b ≡ true → ⊥) → b ≡ false
not_true true h = absurd (h refl)
not_true false h = refl

pub same_int : (x y : ℤ) → int_eq x y ≡ true → x ≡ y
same_int x y h = grind (arith, ints)

pub int_same : (x y : ℤ) → x ≡ y → int_eq x y ≡ true
int_same x y h = grind (arith, ints)

pub to_le : (x y : ℤ) → int_le x y ≡ true → x ≤ℤ y
to_le x y h = grind (arith, ints)

pub le_to : (x y : ℤ) → x ≤ℤ y → int_le x y ≡ true
le_to x y h = grind (arith, ints)

-- a text is one word at most
abbrev lower : List ℕ → List ℕ
lower text = map to_ascii_lowercase text

pub other_word : (text a b : List ℕ) → bytes_eq (map to_ascii_lowercase a) (map to_ascii_lowercase b) ≡ false → is_word text a ≡ true → is_word text b ≡ false
unfolding is_word
other_word text a b apart is =
    not_true (bytes_eq (lower text) (lower b)) (λ also.
    let same : lower a ≡ lower b = sym ((bytes_eq-Decides (lower text) (lower a)).0 is) ∙ (bytes_eq-Decides (lower text) (lower b)).0 also in
    let yes : bytes_eq (lower a) (lower b) ≡ true = (bytes_eq-Decides (lower a) (lower b)).1 same in
    let both : false ≡ true = sym apart ∙ yes in
    cc)
