-- The largest quality for a range, element by element.
use Rattle.std.proofs.Common.{◌≡◌, ℕ, max, List, [], ◌∷◌, Option, Some, None, refl, sym, ap, ◌∙◌, arith}
use Rattle.negotiate.specs.Marks.{semicolon}
use Rattle.td_base.specs.Texts.{pieces}
use Rattle.negotiate.specs.Qualities.{larger_quality, quality_for, largest_for}

larger_in_row : (a b c : Option ℕ) → larger_quality (larger_quality a b) c ≡ larger_quality a (larger_quality b c)
larger_in_row None b c = refl
larger_in_row (Some a) None c = refl
larger_in_row (Some a) (Some b) None = refl
larger_in_row (Some a) (Some b) (Some c) = let e : max (max a b) c ≡ max a (max b c) = omega arith in ap Some e

larger-none : (a : Option ℕ) → larger_quality a None ≡ a
larger-none None = refl
larger-none (Some a) = refl

pub past_element : (range : List ℕ) (best : Option ℕ) (elements : List (List ℕ)) (element : List ℕ) (after : List (List ℕ)) (all : Option ℕ)
    → elements ≡ element ∷ after → larger_quality best (largest_for range elements) ≡ all
    → larger_quality (larger_quality best (quality_for range (pieces semicolon element))) (largest_for range after) ≡ all
unfolding largest_for
past_element range best elements element after all e so_far =
    larger_in_row best (quality_for range (pieces semicolon element)) (largest_for range after)
    ∙ ap (λ l. larger_quality best (largest_for range l)) (sym e) ∙ so_far

pub past_all : (range : List ℕ) (best all : Option ℕ) → larger_quality best (largest_for range []) ≡ all → best ≡ all
unfolding largest_for
past_all range best all so_far = sym (larger-none best) ∙ so_far
