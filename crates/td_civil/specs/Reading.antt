-- Texts of moments and dates, read: the fields stand at fixed places, and the text is that of the
-- fields.
use Rattle.std.specs.Prelude.{◌≡◌, ℕ, ◌≤◌, ◌+◌, ◌-◌, ◌*◌, List, slice_index, Bool, ◌&&◌, nat_le}
use Rattle.std.specs.Prelude.{nat_lt, if◌then◌else◌, ℤ, pos, Option, Some, None, ◌++◌, ◌∷◌}
use Rattle.std.specs.Str.{bytes_eq}
use Rattle.jiff_core.specs.Calendar.{days_in_month}
use Rattle.td_civil.specs.Stamp.{Stamp, moment_at, spelling, two_digits, four_digits}

-- the number that two digits write, and four
abbrev pub two_at : List ℕ → ℕ → ℕ
two_at text i = 10 * (slice_index text i - 48) + (slice_index text (i + 1) - 48)

abbrev pub four_at : List ℕ → ℕ → ℕ
four_at text i = 100 * two_at text i + two_at text (i + 2)

-- the fields at their places in YYYY-MM-DDTHH:MM:SSZ
abbrev pub stamp_in : List ℕ → Stamp
stamp_in text = record {
  year = four_at text 0;
  month = two_at text 5;
  day = two_at text 8;
  hour = two_at text 11;
  minute = two_at text 14;
  second = two_at text 17;
}

-- whether there is such a date
abbrev pub is_date : ℕ → ℕ → ℕ → Bool
is_date year month day =
    nat_le year 9999 && nat_le 1 month && nat_le month 12
    && nat_le 1 day && nat_le day (days_in_month (pos year) month)

-- whether there is such a date and such a time of day
abbrev pub is_stamp : Stamp → Bool
is_stamp s =
    is_date s.year s.month s.day && nat_lt s.hour 24 && nat_lt s.minute 60 && nat_lt s.second 60

-- the moment at which UTC shows these fields, if there is one
abbrev pub moment_if : Stamp → Option ℤ
moment_if s = if is_stamp s then Some (moment_at s) else None

-- the moment that a text spells, if it spells one
unfoldable pub moment_in : List ℕ → Option ℤ
moment_in text =
    let s = stamp_in text in
    if is_stamp s && bytes_eq text (spelling s) then Some (moment_at s) else None

-- YYYY-MM-DD
abbrev pub date_spelling : ℕ → ℕ → ℕ → List ℕ
date_spelling year month day = four_digits year ++ (45 ∷ two_digits month) ++ (45 ∷ two_digits day)

-- whether a text is a date, YYYY-MM-DD of the years 0000 to 9999
unfoldable pub is_date_text : List ℕ → Bool
is_date_text text =
    is_date (four_at text 0) (two_at text 5) (two_at text 8)
    && bytes_eq text (date_spelling (four_at text 0) (two_at text 5) (two_at text 8))

-- the text is that of a date that there is
pub record IsDateText (text : List ℕ) : Type 0 where
  pub year : ℕ
  pub month : ℕ
  pub day : ℕ
  pub year_in : year ≤ 9999
  pub month_in : (1 ≤ month) × (month ≤ 12)
  pub day_in : (1 ≤ day) × (day ≤ days_in_month (pos year) month)
  pub text_is : text ≡ date_spelling year month day
