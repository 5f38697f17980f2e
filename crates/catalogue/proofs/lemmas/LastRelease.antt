-- The last release of a history is a release of it.
use Rattle.std.proofs.Common.{◌≡◌, Option, None, Some, List, [], ◌∷◌, ◌++◌, ap}
use Rattle.std.specs.List.{last_or}
use Rattle.catalogue.specs.Releases.{ReleaseData}
use Rattle.catalogue.specs.Histories.{IsHistory, IsRelease, last_release}

-- a list whose last item this is
record Ends (H : List ReleaseData) (r : ReleaseData) : Type 0 where
  before : List ReleaseData
  is : H ≡ before ++ r ∷ []

ends_at : (o : Option ReleaseData) (x : ReleaseData) (xs : List ReleaseData) (r : ReleaseData) → last_or o (x ∷ xs) ≡ Some r → Ends (x ∷ xs) r
ends_at o x [] r e = let same : x ≡ r = cc in record { before = []; is = ap (λ y. y ∷ []) same }
ends_at o x (y ∷ ys) r e =
    let rest = ends_at (Some x) y ys r e in
    record { before = x ∷ rest.before; is = ap (λ zs. x ∷ zs) rest.is }

-- what a history is before its last release
pub record Last (sound : ReleaseData → Type 0) (H : List ReleaseData) (r : ReleaseData) : Type 0 where
  pub before : List ReleaseData
  pub is : H ≡ before ++ r ∷ []
  pub release : IsRelease sound before r

pub last_of : (sound : ReleaseData → Type 0) (H : List ReleaseData) (r : ReleaseData) → IsHistory sound H → last_release H ≡ Some r → Last sound H r
last_of sound [] r is e = absurd (cc)
last_of sound (x ∷ xs) r is e =
    let ends = ends_at None x xs r e in
    record { before = ends.before; is = ends.is; release = is ends.before r [] ends.is }
