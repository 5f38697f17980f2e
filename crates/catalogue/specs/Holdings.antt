-- Which histories a catalogue stands for.
use Rattle.std.specs.Prelude.{ℕ, List, length, map, ◌≡◌, Some}
use Rattle.catalogue.specs.Order.{rising_by}
use Rattle.catalogue.specs.Releases.{ContentData, ReleaseData, names_of}
use Rattle.catalogue.specs.Digests.{chain_of, content_digest}
use Rattle.catalogue.specs.Histories.{last_release, IsHistory, meta, tokens_of}
use Rattle.catalogue.specs.HeldZones.{held_content, held_digest, held_entry}
use Rattle.catalogue.specs.declared.head.Head.{Head}
use Rattle.catalogue.specs.declared.holding.Catalogue.{Catalogue}

-- the release that has these contents
abbrev pub release_of : Head → List ContentData → ReleaseData
release_of head contents = record {
  stamp = head.stamp.seconds;
  publisher = head.publisher;
  version = head.version;
  contents = contents;
  leaps = head.leaps;
}

-- the release that a catalogue holds
abbrev pub release_held : {Z : Type 0} → (Z → List ℕ) → Catalogue Z → ReleaseData
release_held bytes c = release_of c.head (map (held_content bytes) c.held)

-- all names of that release, in rising order
unfoldable pub names_held : {Z : Type 0} → (Z → List ℕ) → Catalogue Z → List (List ℕ)
names_held bytes c = rising_by (λ name. name) (names_of (release_held bytes c).contents)

-- how many zones a catalogue holds, and how many releases its history has
abbrev pub zone_count : {Z : Type 0} → Catalogue Z → ℕ
zone_count c = length c.held

abbrev pub place_count : {Z : Type 0} → Catalogue Z → ℕ
place_count c = c.count

-- the catalogue stands for the history: it holds its last release, the digests and the last changes
-- of that release's zones, the last chain value, how many places there are, and the tokens of the
-- last ones
pub record StandsFor {Z : Type 0} (bytes : Z → List ℕ) (sound : ReleaseData → Type 0)
    (c : Catalogue Z) (H : List ReleaseData) : Type 0 where
  pub history : IsHistory sound H
  pub last : last_release H ≡ Some (release_held bytes c)
  pub entries : map (held_entry bytes) c.held ≡ meta H
  pub digests : map held_digest c.held ≡ map (λ h. content_digest (held_content bytes h)) c.held
  pub chain : c.chain ≡ chain_of H
  pub places : (place_count c ≡ length H) × (c.tokens ≡ tokens_of H)

-- a fact of each history that the catalogue stands for
abbrev pub ForEachHistory : {Z : Type 0} → (Z → List ℕ) → (ReleaseData → Type 0) → Catalogue Z
    → (List ReleaseData → Type 0) → Type 0
ForEachHistory bytes sound c P = (H : List ReleaseData) → StandsFor bytes sound c H → P H

-- the catalogue stands for some history
abbrev pub HasHistory : {Z : Type 0} → (Z → List ℕ) → (ReleaseData → Type 0) → Catalogue Z → Type 0
HasHistory bytes sound c = (H : List ReleaseData) × StandsFor bytes sound c H

-- the history of catalogues that were published: the release that each holds
abbrev pub history_of : List (Catalogue (List ℕ)) → List ReleaseData
history_of published = map (release_held (λ file. file)) published
