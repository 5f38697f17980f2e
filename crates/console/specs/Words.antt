-- What the words that an operator writes mean.
use Rattle.std.specs.Prelude.{ℕ, ◌+◌, ◌-◌, List, length, decimal, Bool, ◌&&◌, ◌||◌, ◌==◌, nat_le, ℤ}
use Rattle.std.specs.Prelude.{if◌then◌else◌, Option, None, Some, option_and_then}
use Rattle.std.specs.List.{find, list_all, range_with_len}
use Rattle.std.specs.Str.{bytes_eq}
use Rattle.td_base.specs.Names.{is_name_byte}
use Rattle.td_base.specs.declared.name_forms.TheConstants.{MOST_IDENTIFIER_BYTES}
use Rattle.td_civil.specs.Bounds.{has_meaning}
use Rattle.td_civil.specs.Reading.{moment_in}

-- the number that a word writes in decimal, from the least to the most
unfoldable pub number_in_word : ℕ → ℕ → List ℕ → Option ℕ
number_in_word least most word =
    find (λ n. bytes_eq (decimal n) word) (range_with_len least (most + 1 - least))

-- the moment, where it has a meaning
abbrev pub if_meant : ℤ → Option ℤ
if_meant m = if has_meaning m then Some m else None

-- the moment that a word spells, where it has a meaning
unfoldable pub meant_moment : List ℕ → Option ℤ
meant_moment word = option_and_then if_meant (moment_in word)

-- a byte that identifiers of zones may have
abbrev pub is_identifier_byte : ℕ → Bool
is_identifier_byte b = is_name_byte b || (b == 47)

-- a text with which identifiers may begin: as many bytes as they may have, and no others
abbrev pub is_beginning : List ℕ → Bool
is_beginning text =
    nat_le 1 (length text) && nat_le (length text) MOST_IDENTIFIER_BYTES
    && list_all is_identifier_byte text
