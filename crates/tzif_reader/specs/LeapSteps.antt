-- What the leap lines of a zone file say of the days of UTC: from which day on TAI - UTC has which
-- value.
use Rattle.std.specs.Prelude.{ℕ, ◌+◌, ◌-◌, ℤ, pos, ◌+ℤ◌, ◌-ℤ◌, int_lt, int_rem, Bool}
use Rattle.std.specs.Prelude.{not, ◌&&◌, ◌||◌, ◌==◌, nat_lt, if◌then◌else◌, List, [], ◌∷◌, length}
use Rattle.std.specs.Prelude.{slice_index_or, Option}
use Rattle.std.specs.Option.{option_map}
use Rattle.std.specs.List.{range_with_len, flat_map}
use Rattle.std.specs.Int.{int_div_euclid}
use Rattle.std.specs.Ordering.{int_eq}
use Rattle.td_civil.specs.declared.moment_type.TheConstants.{HI}
use Rattle.tzif_reader.specs.declared.zone_file.LeapLine.{LeapLine}
use Rattle.td_base.specs.FirstFault.{least}

-- why lines are no leap table: this line does not go one second on, or it does not begin a day
pub data LeapCause : Type 0 where
  Step : (line : ℕ) → LeapCause
  Midnight : (line : ℕ) → LeapCause

-- line i, with the beginning of 1972 and no correction before line 0
abbrev pub start : LeapLine
start = record { at = pos 63072000; correction = pos 0 }

abbrev pub line_at : List LeapLine → ℕ → LeapLine
line_at lines i = slice_index_or lines i start

abbrev pub line_before : List LeapLine → ℕ → LeapLine
line_before lines i = if i == 0 then start else line_at lines (i - 1)

-- the last of several lines, where it has the correction of the one before: it says how long the
-- table holds
unfoldable pub is_expiry : List LeapLine → ℕ → Bool
is_expiry lines i =
    nat_lt 0 i && (i + 1 == length lines)
    && int_eq (line_at lines i).correction (line_before lines i).correction

-- a line is later than the one before, and before the end of the moments that have a meaning
unfoldable pub is_in_time : List LeapLine → ℕ → Bool
is_in_time lines i =
    int_lt (line_before lines i).at (line_at lines i).at && int_lt (line_at lines i).at HI

-- its correction is one second more than that of the one before
unfoldable pub is_one_on : List LeapLine → ℕ → Bool
is_one_on lines i =
    int_eq (line_at lines i).correction ((line_before lines i).correction +ℤ pos 1)

unfoldable pub is_step : List LeapLine → ℕ → Bool
is_step lines i = is_in_time lines i && (is_expiry lines i || is_one_on lines i)

-- the UTC second at which the line's correction begins, without leap seconds
abbrev pub second_of : List LeapLine → ℕ → ℤ
second_of lines i = (line_at lines i).at -ℤ (line_before lines i).correction

unfoldable pub is_midnight : List LeapLine → ℕ → Bool
is_midnight lines i = int_eq (int_rem (second_of lines i) (pos 86400)) (pos 0)

unfoldable pub is_no_line : List LeapLine → ℕ → Bool
is_no_line lines i =
    not (is_step lines i) || (not (is_expiry lines i) && not (is_midnight lines i))

abbrev pub cause_of : List LeapLine → ℕ → LeapCause
cause_of lines i = if is_step lines i then Midnight i else Step i

-- the first line that does not fit, and why
unfoldable pub leap_fault : List LeapLine → Option LeapCause
leap_fault lines = option_map (cause_of lines) (least (length lines) (is_no_line lines))

-- the day of a line, counted from 1970-01-01, with TAI - UTC in seconds from then on; the expiry
-- tells none
abbrev pub step_of : List LeapLine → ℕ → List (ℤ × ℤ)
step_of lines i =
    if is_expiry lines i then []
    else (int_div_euclid (second_of lines i) (pos 86400), pos 10 +ℤ (line_at lines i).correction)
    ∷ []

-- The days from which on TAI - UTC has a new value, each with that value: 1972-01-01 with 10, and
-- the day of each line.
unfoldable pub leap_steps : List LeapLine → List (ℤ × ℤ)
leap_steps lines =
    (pos 730, pos 10) ∷ flat_map (step_of lines) (range_with_len 0 (length lines))
