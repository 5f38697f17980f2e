-- What is hashed for the tags and tokens of a history.
use Rattle.std.specs.Prelude.{◌≡◌, ◌⊎◌, ℕ, List, [], ◌∷◌, take}
use Rattle.std.specs.List.{Contains}
use Rattle.hex.specs.Hex.{encode_lower}
use Rattle.sha2.specs.Sha256.{sha256}
use Rattle.catalogue.specs.Releases.{ContentData, ReleaseData}
use Rattle.catalogue.specs.Digests.{chain_of, content_bytes, link_bytes, linked}

-- the bytes are those of one of the contents
abbrev pub IsOfContents : List ContentData → List ℕ → Type 0
IsOfContents contents text =
    (c : ContentData) × Contains contents c × (text ≡ content_bytes c)

-- the bytes are those of a place or of a content of one of the releases, the first of which comes
-- after this chain value
abbrev pub IsHashedAfter : List ℕ → List ReleaseData → List ℕ → Type 0
IsHashedAfter chain [] text = ⊥
IsHashedAfter chain (r ∷ rs) text =
    (text ≡ link_bytes chain r)
    ⊎ (IsOfContents r.contents text ⊎ IsHashedAfter (linked chain r) rs text)

abbrev pub IsHashed : List ReleaseData → List ℕ → Type 0
IsHashed H text = IsHashedAfter (chain_of []) H text

-- what a token shows of a digest
abbrev pub shown_of : List ℕ → List ℕ
shown_of digest = take 16 (encode_lower digest)

-- no two different texts that are hashed for the two histories have digests of which a token shows
-- the same
abbrev pub AreApartByDigest : List ReleaseData → List ReleaseData → Type 0
AreApartByDigest G H =
    (a b : List ℕ) → IsHashed G a → IsHashed H b → shown_of (sha256 a) ≡ shown_of (sha256 b) → a ≡ b
