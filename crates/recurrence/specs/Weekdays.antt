-- The weekdays of rules, written and read (RFC 5545, section 3.3.10): two letters, after a number
-- or none.
use Rattle.std.specs.Prelude.{ℕ, ◌-◌, ◌==◌, nat_le, List, [], ◌∷◌, length, take, drop, codes, Bool}
use Rattle.std.specs.Prelude.{◌&&◌, if◌then◌else◌, ℤ, unsigned_abs, Option, None, Some}
use Rattle.std.specs.Option.{option_map}
use Rattle.std.specs.Str.{all_ascii_digits, bytes_eq}
use Rattle.std.specs.Str.Parse.{without_leading_sign, signed_digits_value}

-- a weekday, where Sunday is 0
unfoldable pub weekday_name : ℕ → List ℕ
weekday_name weekday =
    if weekday == 0 then codes "SU" else if weekday == 1 then codes "MO"
    else if weekday == 2 then codes "TU" else if weekday == 3 then codes "WE"
    else if weekday == 4 then codes "TH" else if weekday == 5 then codes "FR" else codes "SA"

unfoldable pub weekday_of_text : List ℕ → Option ℕ
weekday_of_text text =
    if bytes_eq text (codes "SU") then Some 0 else if bytes_eq text (codes "MO") then Some 1
    else if bytes_eq text (codes "TU") then Some 2 else if bytes_eq text (codes "WE") then Some 3
    else if bytes_eq text (codes "TH") then Some 4 else if bytes_eq text (codes "FR") then Some 5
    else if bytes_eq text (codes "SA") then Some 6 else None

-- one to so many digits, after a sign or none, and without the sign a number from 1 to `most`
abbrev pub is_number : ℕ → ℕ → List ℕ → Bool
is_number places most text =
    all_ascii_digits (without_leading_sign text)
    && nat_le 1 (length (without_leading_sign text))
    && nat_le (length (without_leading_sign text)) places
    && nat_le 1 (unsigned_abs (signed_digits_value 10 text))
    && nat_le (unsigned_abs (signed_digits_value 10 text)) most

unfoldable pub number_of_text : ℕ → ℕ → List ℕ → Option ℤ
number_of_text places most text =
    if is_number places most text then Some (signed_digits_value 10 text) else None

-- each such weekday, or the nth one
pub record Day : Type 0 where
  pub nth : Option ℤ
  pub weekday : ℕ

abbrev pub day_of : Option (Option ℤ) → Option ℕ → Option Day
day_of (Some nth) (Some weekday) = Some (record { nth = nth; weekday = weekday })
day_of nth weekday = None

-- the number before a weekday, if there is one
abbrev pub nth_of_text : List ℕ → Option (Option ℤ)
nth_of_text [] = Some None
nth_of_text (b ∷ bs) = option_map Some (number_of_text 2 53 (b ∷ bs))

unfoldable pub day_of_text : List ℕ → Option Day
day_of_text text =
    day_of (nth_of_text (take (length text - 2) text))
    (weekday_of_text (drop (length text - 2) text))
