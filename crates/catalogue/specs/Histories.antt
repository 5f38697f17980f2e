-- Histories: lists of releases, the earliest first, each of which is sound and fits those before
-- it.
use Rattle.std.specs.Prelude.{ℕ, ◌+◌, ◌-◌, ◌<◌, ◌≤◌, List, [], ◌∷◌, ◌++◌, length, take, map, Bool}
use Rattle.std.specs.Prelude.{◌≡◌, Option, None, Some, IfSome, IsTrue, ℤ, ◌≤ℤ◌}
use Rattle.std.specs.List.{IsDistinct, list_all, list_any, last_or, suffix_len, range_with_len}
use Rattle.std.specs.List.{slice_index_or}
use Rattle.std.specs.Str.{bytes_eq}
use Rattle.td_base.specs.Names.{is_identifier}
use Rattle.catalogue.specs.Releases.{ContentData, ReleaseData, same_content, names_of, IsInOrder}
use Rattle.catalogue.specs.Digests.{tag_of, chain_of, token_text}
use Rattle.catalogue.specs.declared.limits.TheConstants.{MOST_ZONES, MOST_NAMES, MOST_RELEASES}
use Rattle.catalogue.specs.declared.limits.TheConstants.{KEPT_TOKENS}

abbrev pub last_release : List ReleaseData → Option ReleaseData
last_release H = last_or None H

-- whether a name is one of the release's
abbrev pub has_name : ReleaseData → List ℕ → Bool
has_name r name = list_any (bytes_eq name) (names_of r.contents)

-- the release may follow so many releases of which this is the last: its names are identifiers and
-- distinct, it is not earlier than the last one and drops none of its names, and the limits are
-- kept
pub record FitsAfter (before : Option ReleaseData) (count : ℕ) (r : ReleaseData) : Type 0 where
  pub identifiers : IsTrue (list_all is_identifier (names_of r.contents))
  pub distinct : IsDistinct bytes_eq (names_of r.contents)
  pub stamp : IfSome before (λ last. last.stamp ≤ℤ r.stamp)
  pub kept : IfSome before (λ last. IsTrue (list_all (has_name r) (names_of last.contents)))
  pub zones : length r.contents ≤ MOST_ZONES
  pub names : length (names_of r.contents) ≤ MOST_NAMES
  pub places : count < MOST_RELEASES

-- the release may follow the history
abbrev pub Fits : List ReleaseData → ReleaseData → Type 0
Fits H r = FitsAfter (last_release H) (length H) r

-- each release is in order, sound, and fits those before it
pub record IsRelease (sound : ReleaseData → Type 0) (before : List ReleaseData)
    (r : ReleaseData) : Type 0 where
  pub in_order : IsInOrder r
  pub is_sound : sound r
  pub fits : Fits before r

abbrev pub IsHistory : (ReleaseData → Type 0) → List ReleaseData → Type 0
IsHistory sound H =
    (before : List ReleaseData) (r : ReleaseData) (after : List ReleaseData)
    → H ≡ before ++ r ∷ after → IsRelease sound before r

-- the token of the n-th place, counted from 1
unfoldable pub token_of : List ReleaseData → ℕ → List ℕ
token_of H n = token_text n (chain_of (take n H))

-- how many of so many places come before the last ones, whose tokens are kept
abbrev pub retired : ℕ → ℕ
retired count = count - KEPT_TOKENS

-- the last ones of so many places
abbrev pub kept_places : ℕ → List ℕ
kept_places count = range_with_len (retired count + 1) (count - retired count)

-- their tokens
unfoldable pub tokens_of : List ReleaseData → List (List ℕ)
tokens_of H = map (token_of H) (kept_places (length H))

-- whether a content is one of the release's
abbrev pub has_content : ContentData → ReleaseData → Bool
has_content c r = list_any (same_content c) r.contents

-- the place of the last change of a content of the last release: the first of the last places, one
-- after another, whose releases all have it
unfoldable pub last_change : List ReleaseData → ContentData → ℕ
last_change H c = length H - suffix_len (has_content c) H + 1

-- a zone of the last release, with its tag and the release of its last change
pub record EntryData : Type 0 where
  pub content : ContentData
  pub tag : List ℕ
  pub changed : ℕ
  pub stamp : ℤ
  pub publisher : List ℕ
  pub version : List ℕ

abbrev pub entry_from : ReleaseData → ℕ → ContentData → EntryData
entry_from r place c = record {
  content = c;
  tag = tag_of c;
  changed = place;
  stamp = r.stamp;
  publisher = r.publisher;
  version = r.version;
}

abbrev pub entry_of : List ReleaseData → ReleaseData → ContentData → EntryData
entry_of H last c = entry_from (slice_index_or H (last_change H c - 1) last) (last_change H c) c

abbrev pub entries_of : List ReleaseData → Option ReleaseData → List EntryData
entries_of H None = []
entries_of H (Some last) = map (entry_of H last) last.contents

-- the zones of the last release, in rising order
unfoldable pub meta : List ReleaseData → List EntryData
meta H = entries_of H (last_release H)
