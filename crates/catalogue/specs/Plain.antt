-- What of a release, of an entry and of a token is plain text.
use Rattle.std.specs.Prelude.{◌≡◌, ◌≤◌, ℕ, List, ◌∷◌, ◌++◌, length, Bool, ◌&&◌, ◌||◌, nat_le}
use Rattle.std.specs.Prelude.{IsTrue, decimal}
use Rattle.std.specs.List.{AllByRecursion, list_all}
use Rattle.td_base.specs.Names.{IsPlain}
use Rattle.td_civil.specs.Bounds.{HasMeaning}
use Rattle.catalogue.specs.Releases.{ReleaseData}
use Rattle.catalogue.specs.Histories.{EntryData}

-- a printable ASCII byte that is no space
abbrev pub is_token_byte : ℕ → Bool
is_token_byte b = nat_le 33 b && nat_le b 126

-- 1 to 64 of them
abbrev pub is_token : List ℕ → Bool
is_token text =
    nat_le 1 (length text) && nat_le (length text) 64 && list_all is_token_byte text

-- the publisher and the version are plain
pub record HasPlainLabels (r : ReleaseData) : Type 0 where
  pub publisher : IsPlain r.publisher
  pub version : IsPlain r.version

-- each text of the entry is plain, and its stamp has a meaning
pub record IsPlainEntry (e : EntryData) : Type 0 where
  pub tzid : IsPlain e.content.tzid
  pub aliases : AllByRecursion IsPlain e.content.aliases
  pub tag : IsPlain e.tag
  pub stamp : HasMeaning e.stamp
  pub publisher : IsPlain e.publisher
  pub version : IsPlain e.version

-- a hexadecimal digit, of which the letters are small
abbrev pub is_hex_digit : ℕ → Bool
is_hex_digit b = (nat_le 48 b && nat_le b 57) || (nat_le 97 b && nat_le b 102)

-- the form of the token of a place: the number of the place, a dash and sixteen hexadecimal digits
pub record HasTokenForm (place : ℕ) (text : List ℕ) : Type 0 where
  pub digits : List ℕ
  pub is : text ≡ decimal place ++ 45 ∷ digits
  pub sixteen : length digits ≡ 16
  pub hex : IsTrue (list_all is_hex_digit digits)
  pub number : IsTrue (list_all is_hex_digit (decimal place))
  pub ten : length (decimal place) ≤ 10
