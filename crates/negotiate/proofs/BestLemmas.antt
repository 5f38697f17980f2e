-- The best of the formats, one by one.
use Rattle.std.proofs.Common.{◌≡◌, ℕ, max, cond, nat_lt, ◌==◌, true, false, List, ◌∷◌, Option, Some, option_map, refl, ap, ◌∙◌, arith}
use Rattle.std.specs.Prelude.{find}
use Rattle.negotiate.specs.Choices.{NamedFormat, format_quality, largest_quality}
use Rattle.std.proofs.lemmas.Bool.Decides.{nat_tests}
use Rattle.negotiate.specs.declared.choosing.Format.{Format}

-- the best of further formats, unless this one of this quality is as good
abbrev pub best_after : List ℕ → Option Format → ℕ → List NamedFormat → Option Format
best_after field best quality fs =
    cond (nat_lt quality (largest_quality field fs))
    (option_map (λ f. f.format) (find (λ f. format_quality field f == largest_quality field fs) fs)) best

larger_then : (m l : ℕ) → nat_lt m l ≡ true → max m l ≡ l
larger_then m l h = grind (arith, nat_tests)

smaller_then : (m l : ℕ) → nat_lt m l ≡ false → max m l ≡ m
smaller_then m l h = grind (arith, nat_tests)

apart : (m l : ℕ) → nat_lt m l ≡ true → (m == l) ≡ false
apart m l h = grind (arith, nat_tests)

above_both : (q m l : ℕ) → nat_lt q m ≡ true → nat_lt m l ≡ true → nat_lt q l ≡ true
above_both q m l h k = grind (arith, nat_tests)

below_both : (q m l : ℕ) → nat_lt q m ≡ false → nat_lt m l ≡ false → nat_lt q l ≡ false
below_both q m l h k = grind (arith, nat_tests)

itself : (m : ℕ) → (m == m) ≡ true
itself m = grind (arith, nat_tests)

-- the first format of this quality
abbrev picked : List ℕ → ℕ → List NamedFormat → Option Format
picked field quality fs = option_map (λ (f : NamedFormat). f.format) (find (λ f. format_quality field f == quality) fs)

-- the best of a format and further ones, of which this is the largest quality
abbrev best_of : List ℕ → Option Format → ℕ → List NamedFormat → ℕ → Option Format
best_of field best quality fs largest = cond (nat_lt quality largest) (picked field largest fs) best

-- a better format takes the place of the best one
pub better : (field : List ℕ) (best : Option Format) (q : ℕ) (f : NamedFormat) (fs : List NamedFormat) → nat_lt q (format_quality field f) ≡ true
    → best_after field best q (f ∷ fs) ≡ best_after field (Some f.format) (format_quality field f) fs
better field best q f fs h =
    let m = format_quality field f in
    let l = largest_quality field fs in
    elim (nat_lt m l) as (λ b. nat_lt m l ≡ b → best_after field best q (f ∷ fs) ≡ best_after field (Some f.format) m fs) [
      | true ↦ λ more.
          ap (best_of field best q (f ∷ fs)) (larger_then m l more)
          ∙ rw (apart m l more, above_both q m l h more, more) refl
      | false ↦ λ less. ap (best_of field best q (f ∷ fs)) (smaller_then m l less) ∙ rw (itself m, h, less) refl
    ] refl

-- another format leaves the best one
pub as_good : (field : List ℕ) (best : Option Format) (q : ℕ) (f : NamedFormat) (fs : List NamedFormat) → nat_lt q (format_quality field f) ≡ false
    → best_after field best q (f ∷ fs) ≡ best_after field best q fs
as_good field best q f fs h =
    let m = format_quality field f in
    let l = largest_quality field fs in
    elim (nat_lt m l) as (λ b. nat_lt m l ≡ b → best_after field best q (f ∷ fs) ≡ best_after field best q fs) [
      | true ↦ λ more. ap (best_of field best q (f ∷ fs)) (larger_then m l more) ∙ rw (apart m l more) refl
      | false ↦ λ less.
          ap (best_of field best q (f ∷ fs)) (smaller_then m l less) ∙ rw (h, below_both q m l h less) refl
    ] refl
