-- Which number a word writes.
use Rattle.std.proofs.Common.{◌≡◌, ◌≢◌, ℕ, zero, suc, ◌+◌, ◌-◌, ◌^◌, ◌<◌, ◌≤◌, List, Bool, true, false, Option, None, Some, refl, sym, ap, ◌∙◌, arith, cond}
use Rattle.std.specs.Prelude.{decimal}
use Rattle.std.specs.List.{find, range_with_len}
use Rattle.std.specs.Str.{bytes_eq}
use Rattle.std.proofs.lemmas.Bool.{true≢false}
use Rattle.std.proofs.lemmas.Fmt.{decimal_injective}
use Rattle.std.proofs.lemmas.Slice.Eq.{bytes_eq-Decides}
use Rattle.console.specs.Words.{number_in_word}

abbrev writes : List ℕ → ℕ → Bool
writes word n = bytes_eq (decimal n) word

-- the first of some numbers is the one that the word writes, or the others have it
first_or : (word : List ℕ) (k a : ℕ) (rest : Option ℕ) (b : Bool) → writes word a ≡ b → word ≡ decimal k → a < 2 ^ 64 → k < 2 ^ 64
    → (a ≢ k → rest ≡ Some k) → cond b (Some a) rest ≡ Some k
first_or word k a rest true e is less fits others = ap Some (decimal_injective a k less fits ((bytes_eq-Decides (decimal a) word).0 e ∙ is))
first_or word k a rest false e is less fits others = others (λ same. true≢false (sym ((bytes_eq-Decides (decimal a) word).1 (ap decimal same ∙ sym is)) ∙ e))

found : (word : List ℕ) (k a n : ℕ) → word ≡ decimal k → a ≤ k → k < a + n → a + n < 2 ^ 64 → find (writes word) (range_with_len a n) ≡ Some k
found word k a zero is least less fits = absurd (omega (arith, least, less))
found word k a (suc n) is least less fits =
    first_or word k a (find (writes word) (range_with_len (a + 1) n)) (writes word a) refl is (omega (arith, fits)) (omega (arith, less, fits))
    (λ other. found word k (a + 1) n is (omega (arith, least, other)) (omega (arith, less)) (omega (arith, fits)))

-- none of them is
none_or : (word : List ℕ) (a : ℕ) (rest : Option ℕ) (b : Bool) → writes word a ≡ b → word ≢ decimal a → rest ≡ None → cond b (Some a) rest ≡ None
none_or word a rest true e not others = absurd (not (sym ((bytes_eq-Decides (decimal a) word).0 e)))
none_or word a rest false e not others = others

missed : (word : List ℕ) (a n : ℕ) → ((m : ℕ) → a ≤ m → m < a + n → word ≢ decimal m) → find (writes word) (range_with_len a n) ≡ None
missed word a zero not = refl
missed word a (suc n) not =
    none_or word a (find (writes word) (range_with_len (a + 1) n)) (writes word a) refl (not a (omega arith) (omega arith))
    (missed word (a + 1) n (λ m least less. not m (omega (arith, least)) (omega (arith, less))))

-- a number from the least to the most
pub some_number : (least most : ℕ) (word : List ℕ) (k : ℕ) → most < 2 ^ 32 → word ≡ decimal k → least ≤ k → k ≤ most
    → number_in_word least most word ≡ Some k
unfolding number_in_word
some_number least most word k small is low within = found word k least (most + 1 - least) is low (omega (arith, within, low)) (omega (arith, small, low, within))

-- another number
pub other_number : (least most : ℕ) (word : List ℕ) (k : ℕ) → most < 2 ^ 32 → k < 2 ^ 64 → word ≡ decimal k → (least ≤ k → k ≤ most → ⊥)
    → number_in_word least most word ≡ None
unfolding number_in_word
other_number least most word k small fits is not =
    missed word least (most + 1 - least) (λ m low less same.
    let one : k ≡ m = decimal_injective k m fits (omega (arith, small, low, less)) (sym is ∙ same) in
    not (omega (arith, low, one)) (omega (arith, low, less, one)))

-- no number
pub no_number : (least most : ℕ) (word : List ℕ) → most < 2 ^ 32 → ((n : ℕ) → n < 2 ^ 64 → word ≢ decimal n) → number_in_word least most word ≡ None
unfolding number_in_word
no_number least most word small not = missed word least (most + 1 - least) (λ m low less. not m (omega (arith, small, low, less)))
