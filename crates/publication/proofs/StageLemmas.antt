-- The stage that a publisher holds.
use Rattle.std.proofs.Common.{◌≡◌, List, Option, Some, None, IsSomeAnd, ◌∙◌}
use mathlib.Core.List.{IsPrefix}
use Rattle.publication.specs.declared.view.Home.{Home}
use Rattle.publication.specs.declared.view.View.{View}
use Rattle.publication.specs.declared.view.SeatRole.TheVariants.{Publisher}

module _ {W V : Type 0} (v : W → View V) where
  -- what is to be shown begins with what was shown
  pub stage_longer : (o : Option W) (home now : Home) (list more : List V) → home ≡ now → IsPrefix list more
      → IsSomeAnd o (λ w. ((v w).role ≡ Publisher) × ((v w).home ≡ home) × ((v w).list ≡ list))
      → IsSomeAnd o (λ w. ((v w).role ≡ Publisher) × ((v w).home ≡ now) × IsPrefix (v w).list more)
  stage_longer (Some w) home now list more same longer h = (h.0, h.1 ∙ same, rw h.2 longer)
  stage_longer None home now list more same longer h = h

  -- what is shown, by other names of its history and its list
  pub stage_at : (o : Option W) (home now : Home) (list new : List V) → home ≡ now → list ≡ new
      → IsSomeAnd o (λ w. ((v w).role ≡ Publisher) × ((v w).home ≡ home) × ((v w).list ≡ list))
      → IsSomeAnd o (λ w. ((v w).role ≡ Publisher) × ((v w).home ≡ now) × ((v w).list ≡ new))
  stage_at (Some w) home now list new same lists h = (h.0, h.1 ∙ same, h.2 ∙ lists)
  stage_at None home now list new same lists h = h
