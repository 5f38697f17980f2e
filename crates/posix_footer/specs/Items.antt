-- The items of a TZ string (POSIX, section 8.3; the hours of a time are those of RFC 9636, section
-- 3.3.2). An item stands at the beginning of a text: it is a value and the text after it. A run of
-- letters or of digits is taken whole, so that one which is too long is no item.
use Rattle.std.specs.Prelude.{ℕ, ◌+◌, ◌-◌, ◌*◌, ◌^◌, List, [], ◌∷◌, length, take, drop, Bool, false}
use Rattle.std.specs.Prelude.{◌&&◌, ◌||◌, ◌==◌, nat_le, nat_lt, if◌then◌else◌, ℤ, pos, neg_ℤ, ◌+ℤ◌}
use Rattle.std.specs.Prelude.{int_lt, unsigned_abs, Option, None, Some}
use Rattle.std.specs.List.{prefix_len}
use Rattle.std.specs.Char.{is_ascii_alphabetic, is_ascii_alphanumeric, is_ascii_digit}
use Rattle.posix_footer.specs.declared.rule_types.DayForm.{DayForm}
use Rattle.posix_footer.specs.declared.rule_types.DayForm.TheVariants as day

infixl 10 ◌>>=◌
abbrev pub ◌>>=◌ : {A B : Type 0} → Option A → (A → Option B) → Option B
None >>= f = None
(Some x) >>= f = f x

-- what a name between `<` and `>` is made of: letters, digits, `+` and `-`
abbrev pub is_designation_byte : ℕ → Bool
is_designation_byte byte = is_ascii_alphanumeric byte || (byte == 43) || (byte == 45)

-- whether the text begins with a byte of a kind, and with one byte
abbrev pub begins_as : (ℕ → Bool) → List ℕ → Bool
begins_as kind [] = false
begins_as kind (first ∷ rest) = kind first

abbrev pub begins : ℕ → List ℕ → Bool
begins byte text = begins_as (λ first. first == byte) text

-- the text after the byte
unfoldable pub after_byte : ℕ → List ℕ → Option (List ℕ)
after_byte byte text = if begins byte text then Some (drop 1 text) else None

-- all the bytes of a kind that the text begins with, from fewest to most of them
unfoldable pub run_at : (ℕ → Bool) → ℕ → ℕ → List ℕ → Option (List ℕ × List ℕ)
run_at kind fewest most text =
    let count = prefix_len kind text in
    if nat_le fewest count && nat_le count most
    then Some (take count text, drop count text)
    else None

-- 3 to 32 bytes between `<` and `>`, after the `<`
unfoldable pub quoted_at : List ℕ → Option (List ℕ × List ℕ)
quoted_at text = do
  name ← run_at is_designation_byte 3 32 text
  rest ← after_byte 62 name.1
  Some (name.0, rest)

-- a name: quoted, or 3 to 32 letters
unfoldable pub name_at : List ℕ → Option (List ℕ × List ℕ)
name_at text =
    if begins 60 text then quoted_at (drop 1 text) else run_at is_ascii_alphabetic 3 32 text

-- the number that digits write
abbrev pub number_of_digits : List ℕ → ℕ
number_of_digits [] = 0
number_of_digits (digit ∷ rest) = (digit - 48) * 10 ^ length rest + number_of_digits rest

-- a number from low to high, of fewest to most digits
unfoldable pub number_at : ℕ → ℕ → ℕ → ℕ → List ℕ → Option (ℕ × List ℕ)
number_at fewest most low high text = do
  digits ← run_at is_ascii_digit fewest most text
  let number = number_of_digits digits.0 in
      if nat_le low number && nat_le number high then Some (number, digits.1) else None

-- `:` and two digits up to 59, or nothing, which counts as 0
unfoldable pub part_at : List ℕ → Option (ℕ × List ℕ)
part_at text = if begins 58 text then number_at 2 2 0 59 (drop 1 text) else Some (0, text)

-- hours up to a greatest one, and perhaps minutes, and perhaps seconds: a number of seconds
unfoldable pub clock_at : ℕ → ℕ → List ℕ → Option (ℕ × List ℕ)
clock_at digits greatest text = do
  hours ← number_at 1 digits 0 greatest text
  minutes ← part_at hours.1
  seconds ← part_at minutes.1
  Some (3600 * hours.0 + 60 * minutes.0 + seconds.0, seconds.1)

abbrev pub is_sign : ℕ → Bool
is_sign byte = (byte == 43) || (byte == 45)

-- such a clock with a sign before it, or without, which is as `+`
unfoldable pub signed_at : ℕ → ℕ → List ℕ → Option (ℤ × List ℕ)
signed_at digits greatest text = do
  clock ← clock_at digits greatest (if begins_as is_sign text then drop 1 text else text)
  Some ((if begins 45 text then neg_ℤ (pos clock.0) else pos clock.0), clock.1)

-- an offset of less than a day: west of UTC where it is written, and east as a value
unfoldable pub offset_at : List ℕ → Option (ℤ × List ℕ)
offset_at text = do
  west ← signed_at 2 24 text
  if nat_lt (unsigned_abs west.0) 86400 then Some (neg_ℤ west.0, west.1) else None

-- an hour ahead of standard time, with nothing written, if that is less than a day
unfoldable pub ahead_at : ℤ → List ℕ → Option (ℤ × List ℕ)
ahead_at std text =
    if int_lt (std +ℤ pos 3600) (pos 86400) then Some (std +ℤ pos 3600, text) else None

-- what an offset begins with
abbrev pub begins_offset : ℕ → Bool
begins_offset byte = is_sign byte || is_ascii_digit byte

-- the offset of daylight saving time, which is an hour ahead of standard time where none is written
unfoldable pub daylight_offset_at : ℤ → List ℕ → Option (ℤ × List ℕ)
daylight_offset_at std text =
    if begins_as begins_offset text then offset_at text else ahead_at std text

-- a time of day of less than a week and an hour to either side of midnight
unfoldable pub time_at : List ℕ → Option (ℤ × List ℕ)
time_at text = signed_at 3 167 text

-- a month, a week and a weekday with `.` between them, after the `M`
unfoldable pub week_at : List ℕ → Option (DayForm × List ℕ)
week_at text = do
  month ← number_at 1 2 1 12 text
  after_month ← after_byte 46 month.1
  week ← number_at 1 2 1 5 after_month
  after_week ← after_byte 46 week.1
  weekday ← number_at 1 2 0 6 after_week
  Some (day.Week month.0 week.0 weekday.0, weekday.1)

-- a day by its number, from 1 after `J` and from 0 without it
unfoldable pub julian_at : List ℕ → Option (DayForm × List ℕ)
julian_at text = do
  number ← number_at 1 3 1 365 text
  Some (day.Julian number.0, number.1)

unfoldable pub year_day_at : List ℕ → Option (DayForm × List ℕ)
year_day_at text = do
  number ← number_at 1 3 0 365 text
  Some (day.YearDay number.0, number.1)

-- a day in one of its three forms
unfoldable pub day_at : List ℕ → Option (DayForm × List ℕ)
day_at text =
    if begins 74 text then julian_at (drop 1 text)
    else if begins 77 text then week_at (drop 1 text)
    else year_day_at text
