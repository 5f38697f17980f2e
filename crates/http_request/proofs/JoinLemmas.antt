-- Values joined one by one.
use Rattle.std.proofs.Common.{◌≡◌, ℕ, List, [], ◌∷◌, ◌++◌, Some, None, codes, flat_map, refl, sym, ap, ◌∙◌, append_assoc}
use Rattle.std.proofs.lemmas.List.{append-nil}
use Rattle.http_request.specs.Judging.{joined_values}
use Rattle.http_request.specs.Joining.{values_joined_on}

joined_after : (text : List ℕ) (vs : List (List ℕ)) → values_joined_on (Some text) vs ≡ Some (text ++ flat_map (λ w. codes ", " ++ w) vs)
joined_after text [] = ap Some (sym (append-nil text))
joined_after text (v ∷ vs) =
    joined_after (text ++ (codes ", " ++ v)) vs ∙ ap Some (append_assoc text (codes ", " ++ v) (flat_map (λ w. codes ", " ++ w) vs))

pub joined_start : (vs : List (List ℕ)) → values_joined_on None vs ≡ joined_values vs
joined_start [] = refl
joined_start (v ∷ vs) = joined_after v vs
