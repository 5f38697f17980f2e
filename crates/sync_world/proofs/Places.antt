-- The token of a place is that of the place in each longer part of the history.
use Rattle.std.proofs.Common.{◌≡◌, ℕ, ◌≤◌, List, take, ap}
use Rattle.std.proofs.lemmas.List.{take-take}
use Rattle.catalogue.specs.Digests.{chain_of, token_text}
use Rattle.catalogue.specs.Histories.{token_of}
use Rattle.catalogue.specs.Releases.{ReleaseData}

pub token_of_take : (H : List ReleaseData) (k n : ℕ) → k ≤ n → token_of (take n H) k ≡ token_of H k
unfolding token_of
token_of_take H k n le = ap (λ G. token_text k (chain_of G)) (take-take k n H le)
