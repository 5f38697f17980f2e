-- A history is as long as the catalogues say that stand for it.
use Rattle.std.specs.Prelude.{ℕ, List, length, ◌≡◌}
use Rattle.std.proofs.Common.{sym}
use Rattle.catalogue.specs.Releases.{ReleaseData}
use Rattle.catalogue.specs.Holdings.{StandsFor, place_count}
use Rattle.catalogue.specs.declared.holding.Catalogue.{Catalogue}

pub stands_count : {Z : Type 0} (bytes : Z → List ℕ) (sound : ReleaseData → Type 0)
    (c : Catalogue Z) (H : List ReleaseData) → StandsFor bytes sound c H → length H ≡ place_count c
stands_count bytes sound c H s = sym s.places.0
