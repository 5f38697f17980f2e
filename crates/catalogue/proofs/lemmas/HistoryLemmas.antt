-- The histories of lists of catalogues.
use Rattle.std.proofs.Common.{◌≡◌, ℕ, List, length, ap, sym, ◌∙◌}
use Rattle.std.proofs.lemmas.List.{length-map, map-append}
use mathlib.Core.List.{IsPrefix}
use Rattle.catalogue.specs.Holdings.{history_of, release_held}
use Rattle.catalogue.specs.declared.holding.Catalogue.{Catalogue}

pub history_longer : (xs ys : List (Catalogue (List ℕ))) → IsPrefix xs ys → IsPrefix (history_of xs) (history_of ys)
history_longer xs ys p = (history_of p.0, sym (map-append (release_held (λ f. f)) xs p.0) ∙ ap history_of p.1)

pub history_length : (xs : List (Catalogue (List ℕ))) → length (history_of xs) ≡ length xs
history_length xs = length-map xs (release_held (λ f. f))
