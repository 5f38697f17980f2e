-- What a token stands for: a place after a chain value, and its release.
use Rattle.std.specs.Prelude.{◌≡◌, ℕ, ◌<◌, ◌^◌, List, length, map}
use Rattle.catalogue.specs.Releases.{ReleaseData, HasLengths, leap_file, leap_expiry}
use Rattle.catalogue.specs.Digests.{content_digest}

-- the chain value has 32 bytes, and each length that is hashed fits in four bytes
pub record HasLinkLengths (before : List ℕ) (r : ReleaseData) : Type 0 where
  pub chain : length before ≡ 32
  pub release : HasLengths r
  pub count : length r.contents < 2 ^ 32

-- the places come after the same chain value, and all that their tokens are made of is the same
pub record IsSameLink (a : List ℕ) (r : ReleaseData) (b : List ℕ) (s : ReleaseData) : Type 0 where
  pub before : a ≡ b
  pub stamp : r.stamp ≡ s.stamp
  pub publisher : r.publisher ≡ s.publisher
  pub version : r.version ≡ s.version
  pub leap_file : leap_file r.leaps ≡ leap_file s.leaps
  pub leap_expiry : leap_expiry r.leaps ≡ leap_expiry s.leaps
  pub digests : map content_digest r.contents ≡ map content_digest s.contents
