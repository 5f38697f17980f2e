-- The text of a moment (RFC 3339): a date of the proleptic Gregorian calendar, a time of day and
-- `Z`.
use Rattle.std.specs.Prelude.{◌≡◌, ℕ, ◌+◌, ◌*◌, ◌/◌, ◌%◌, ◌<◌, ◌≤◌, List, [], ◌∷◌, ◌++◌, ℤ, pos}
use Rattle.std.specs.Prelude.{◌+ℤ◌, ◌*ℤ◌}
use Rattle.jiff_core.specs.Calendar.{days_from_civil, days_in_month}

-- the fields of a moment's text
pub record Stamp : Type 0 where
  pub year : ℕ
  pub month : ℕ
  pub day : ℕ
  pub hour : ℕ
  pub minute : ℕ
  pub second : ℕ

-- a date that there is, of the years 0000 to 9999, and a time of day without leap seconds
pub record IsStamp (s : Stamp) : Type 0 where
  pub year : s.year ≤ 9999
  pub month : (1 ≤ s.month) × (s.month ≤ 12)
  pub day : (1 ≤ s.day) × (s.day ≤ days_in_month (pos s.year) s.month)
  pub hour : s.hour < 24
  pub minute : s.minute < 60
  pub second : s.second < 60

-- the last two digits of a number, and the last four
abbrev pub two_digits : ℕ → List ℕ
two_digits n = (48 + n / 10 % 10) ∷ (48 + n % 10) ∷ []

abbrev pub four_digits : ℕ → List ℕ
four_digits n = (48 + n / 1000 % 10) ∷ (48 + n / 100 % 10) ∷ (48 + n / 10 % 10) ∷ (48 + n % 10) ∷ []

-- YYYY-MM-DDTHH:MM:SSZ
abbrev pub spelling : Stamp → List ℕ
spelling s =
    four_digits s.year ++ (45 ∷ two_digits s.month) ++ (45 ∷ two_digits s.day)
    ++ (84 ∷ two_digits s.hour) ++ (58 ∷ two_digits s.minute) ++ (58 ∷ two_digits s.second)
    ++ (90 ∷ [])

-- YYYYMMDDTHHMMSS
abbrev pub basic_spelling : Stamp → List ℕ
basic_spelling s =
    four_digits s.year ++ two_digits s.month ++ two_digits s.day
    ++ (84 ∷ two_digits s.hour) ++ two_digits s.minute ++ two_digits s.second

-- the moment at which UTC shows these fields
abbrev pub moment_at : Stamp → ℤ
moment_at s =
    (days_from_civil (pos s.year) s.month s.day *ℤ pos 86400)
    +ℤ pos (3600 * s.hour + 60 * s.minute + s.second)

-- the text spells the moment
pub record Spells (text : List ℕ) (m : ℤ) : Type 0 where
  pub stamp : Stamp
  pub valid : IsStamp stamp
  pub text_is : text ≡ spelling stamp
  pub moment_is : m ≡ moment_at stamp

-- the text is the local time of clocks that show what UTC shows at the moment `shown`
pub record ShowsLocal (text : List ℕ) (shown : ℤ) : Type 0 where
  pub stamp : Stamp
  pub valid : IsStamp stamp
  pub text_is : text ≡ basic_spelling stamp
  pub moment_is : shown ≡ moment_at stamp
