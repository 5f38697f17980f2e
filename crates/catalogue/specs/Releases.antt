-- A release as plain data, and what it is made of.
use Rattle.std.specs.Prelude.{ℕ, ◌<◌, ◌^◌, List, [], ◌∷◌, ◌++◌, length, map, Bool, ◌&&◌, Option}
use Rattle.std.specs.Prelude.{None, Some, ℤ}
use Rattle.std.specs.List.{AllByRecursion}
use Rattle.std.specs.Cmp.Lexicographic.{pointwise}
use Rattle.std.specs.Str.{bytes_eq}
use Rattle.td_civil.specs.Bounds.{HasMeaning}
use Rattle.catalogue.specs.Order.{rising_by, IsRising}
use Rattle.catalogue.specs.declared.release.Content.{Content}
use Rattle.catalogue.specs.declared.release.Leaps.{Leaps}
use Rattle.catalogue.specs.declared.release.Release.{Release}

-- a zone: its identifier, its aliases and the bytes of its file
pub record ContentData : Type 0 where
  pub tzid : List ℕ
  pub aliases : List (List ℕ)
  pub file : List ℕ

-- a release: when it was published, by whom and under which version, its zones and its leap seconds
pub record ReleaseData : Type 0 where
  pub stamp : ℤ
  pub publisher : List ℕ
  pub version : List ℕ
  pub contents : List ContentData
  pub leaps : Option Leaps

-- whether two contents are one and the same
abbrev pub same_content : ContentData → ContentData → Bool
same_content a b =
    bytes_eq a.tzid b.tzid && pointwise bytes_eq a.aliases b.aliases && bytes_eq a.file b.file

-- all names of the contents: identifiers and aliases
abbrev pub names_of : List ContentData → List (List ℕ)
names_of [] = []
names_of (c ∷ cs) = c.tzid ∷ c.aliases ++ names_of cs

-- the bytes of the file of leap seconds, and its expiry: none without such a file
abbrev pub leap_file : Option Leaps → List ℕ
leap_file None = []
leap_file (Some leaps) = leaps.file

abbrev pub leap_expiry : Option Leaps → List ℕ
leap_expiry None = []
leap_expiry (Some leaps) = leaps.expires

-- the stamp has a meaning, and the length of each text fits in four bytes
pub record HasLengths (r : ReleaseData) : Type 0 where
  pub stamp : HasMeaning r.stamp
  pub publisher : length r.publisher < 2 ^ 32
  pub version : length r.version < 2 ^ 32
  pub files : AllByRecursion (λ c. length c.file < 2 ^ 32) r.contents
  pub leap_file : length (leap_file r.leaps) < 2 ^ 32
  pub leap_expiry : length (leap_expiry r.leaps) < 2 ^ 32

-- each length of a content fits in four bytes
pub record IsShort (c : ContentData) : Type 0 where
  pub tzid : length c.tzid < 2 ^ 32
  pub count : length c.aliases < 2 ^ 32
  pub aliases : AllByRecursion (λ a. length a < 2 ^ 32) c.aliases
  pub file : length c.file < 2 ^ 32

-- the contents rise by their identifiers, and the aliases of each rise
pub record IsInOrder (r : ReleaseData) : Type 0 where
  pub contents : IsRising (map (λ c. c.tzid) r.contents)
  pub aliases : AllByRecursion (λ c. IsRising c.aliases) r.contents

-- a zone as it stands, and with its aliases in rising order, where `bytes` tells the bytes of its
-- file
abbrev pub content_as_is : {Z : Type 0} → (Z → List ℕ) → Content Z → ContentData
content_as_is bytes c = record { tzid = c.tzid; aliases = c.aliases; file = bytes c.zone }

abbrev pub content_data : {Z : Type 0} → (Z → List ℕ) → Content Z → ContentData
content_data bytes c =
    record { tzid = c.tzid; aliases = rising_by (λ a. a) c.aliases; file = bytes c.zone }

-- a release in rising order, whatever the order in which its zones and their aliases stand
abbrev pub release_data : {Z : Type 0} → (Z → List ℕ) → Release Z → ReleaseData
release_data bytes r = record {
  stamp = r.stamp.seconds;
  publisher = r.publisher;
  version = r.version;
  contents = rising_by (λ c. c.tzid) (map (content_data bytes) r.zones);
  leaps = r.leaps;
}

-- a release whose zones and aliases stand as they were handed in
abbrev pub release_as_is : {Z : Type 0} → (Z → List ℕ) → Release Z → ReleaseData
release_as_is bytes r = record {
  stamp = r.stamp.seconds;
  publisher = r.publisher;
  version = r.version;
  contents = map (content_as_is bytes) r.zones;
  leaps = r.leaps;
}
