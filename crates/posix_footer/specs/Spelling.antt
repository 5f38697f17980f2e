-- Which text spells which footer (POSIX, section 8.3; RFC 9636, section 3.3.2). A text is its
-- pieces one after another.
use Rattle.std.specs.Prelude.{◌≡◌, ℕ, ◌+◌, ◌*◌, ◌<◌, ◌≤◌, ◌⊎◌, List, [], ◌∷◌, ◌++◌, length, Bool}
use Rattle.std.specs.Prelude.{true, false, ℤ, pos, neg_ℤ, ◌+ℤ◌, ◌<ℤ◌, unsigned_abs, Option, None}
use Rattle.std.specs.Prelude.{Some}
use Rattle.std.specs.List.{list_all}
use Rattle.std.specs.Char.{is_ascii_alphabetic, is_ascii_digit}
use Rattle.td_civil.specs.declared.local_time.Local.{Local}
use Rattle.posix_footer.specs.declared.rule_types.DayForm.{DayForm}
use Rattle.posix_footer.specs.declared.rule_types.DayForm.TheVariants as day
use Rattle.posix_footer.specs.declared.rule_types.Date.{Date}
use Rattle.posix_footer.specs.declared.rule_types.DstRule.{DstRule}
use Rattle.posix_footer.specs.declared.rule_types.Footer.{Footer}
use Rattle.posix_footer.specs.Items.{is_designation_byte, number_of_digits}

-- from fewest to most bytes of a kind
pub record IsRun (kind : ℕ → Bool) (fewest most : ℕ) (text : List ℕ) : Type 0 where
  pub all : list_all kind text ≡ true
  pub at_least : fewest ≤ length text
  pub at_most : length text ≤ most

-- a name by itself, in letters, or between `<` and `>`
pub record IsUnquoted (text name : List ℕ) : Type 0 where
  pub letters : IsRun is_ascii_alphabetic 3 32 name
  pub text_is : text ≡ name

pub record IsQuoted (text name : List ℕ) : Type 0 where
  pub bytes : IsRun is_designation_byte 3 32 name
  pub text_is : text ≡ 60 ∷ (name ++ 62 ∷ [])

abbrev pub IsName : List ℕ → List ℕ → Type 0
IsName text name = IsUnquoted text name ⊎ IsQuoted text name

-- a number from low to high, in fewest to most digits
pub record IsNumber (fewest most low high : ℕ) (text : List ℕ) (n : ℕ) : Type 0 where
  pub digits : IsRun is_ascii_digit fewest most text
  pub value : n ≡ number_of_digits text
  pub at_least : low ≤ n
  pub at_most : n ≤ high

-- `:` and two digits up to 59
pub record IsClockPart (text : List ℕ) (n : ℕ) : Type 0 where
  pub digits : List ℕ
  pub text_is : text ≡ 58 ∷ digits
  pub number : IsNumber 2 2 0 59 digits n

-- after the hours stand neither minutes nor seconds, or minutes alone, or both
pub record IsEmpty (text : List ℕ) (seconds : ℕ) : Type 0 where
  pub text_is : text ≡ []
  pub value : seconds ≡ 0

pub record IsMinutes (text : List ℕ) (seconds : ℕ) : Type 0 where
  pub minute : ℕ
  pub part : IsClockPart text minute
  pub value : seconds ≡ 60 * minute

pub record IsMinutesAndSeconds (text : List ℕ) (seconds : ℕ) : Type 0 where
  pub minute : ℕ
  pub second : ℕ
  pub minute_text : List ℕ
  pub second_text : List ℕ
  pub text_is : text ≡ minute_text ++ second_text
  pub minute_part : IsClockPart minute_text minute
  pub second_part : IsClockPart second_text second
  pub value : seconds ≡ 60 * minute + second

abbrev pub IsAfterHours : List ℕ → ℕ → Type 0
IsAfterHours text seconds =
    IsEmpty text seconds ⊎ IsMinutes text seconds ⊎ IsMinutesAndSeconds text seconds

pub record IsClock (digits greatest : ℕ) (text : List ℕ) (seconds : ℕ) : Type 0 where
  pub hour : ℕ
  pub after_hours : ℕ
  pub hour_text : List ℕ
  pub after_text : List ℕ
  pub text_is : text ≡ hour_text ++ after_text
  pub hours : IsNumber 1 digits 0 greatest hour_text hour
  pub parts : IsAfterHours after_text after_hours
  pub value : seconds ≡ 3600 * hour + after_hours

-- no sign or `+`, and `-`
pub record IsAsIs (sign : List ℕ) (n : ℕ) (z : ℤ) : Type 0 where
  pub sign_is : (sign ≡ []) ⊎ (sign ≡ 43 ∷ [])
  pub value : z ≡ pos n

pub record IsTurned (sign : List ℕ) (n : ℕ) (z : ℤ) : Type 0 where
  pub sign_is : sign ≡ 45 ∷ []
  pub value : z ≡ neg_ℤ (pos n)

abbrev pub HasSign : List ℕ → ℕ → ℤ → Type 0
HasSign sign n z = IsAsIs sign n z ⊎ IsTurned sign n z

pub record IsSignedNumber (digits greatest : ℕ) (text : List ℕ) (z : ℤ) : Type 0 where
  pub seconds : ℕ
  pub sign : List ℕ
  pub clock_text : List ℕ
  pub text_is : text ≡ sign ++ clock_text
  pub clock : IsClock digits greatest clock_text seconds
  pub signed : HasSign sign seconds z

-- hours up to 24, but less than a day in all: what is written is west of UTC, and what is kept is
-- east
pub record IsOffset (text : List ℕ) (offset : ℤ) : Type 0 where
  pub west : ℤ
  pub signed : IsSignedNumber 2 24 text west
  pub within : unsigned_abs west < 86400
  pub value : offset ≡ neg_ℤ west

-- no offset, which is an hour ahead of standard time
pub record IsHourAhead (std : ℤ) (text : List ℕ) (offset : ℤ) : Type 0 where
  pub text_is : text ≡ []
  pub within : (std +ℤ pos 3600) <ℤ pos 86400
  pub value : offset ≡ std +ℤ pos 3600

-- a name and an offset
pub record IsStandard (text : List ℕ) (state : Local) : Type 0 where
  pub name_text : List ℕ
  pub offset_text : List ℕ
  pub text_is : text ≡ name_text ++ offset_text
  pub name : IsName name_text state.name
  pub offset : IsOffset offset_text state.offset
  pub standard : state.dst ≡ false

-- a name, and an offset or none
pub record IsDaylight (std : ℤ) (text : List ℕ) (state : Local) : Type 0 where
  pub name_text : List ℕ
  pub offset_text : List ℕ
  pub text_is : text ≡ name_text ++ offset_text
  pub name : IsName name_text state.name
  pub offset : IsOffset offset_text state.offset ⊎ IsHourAhead std offset_text state.offset
  pub daylight : state.dst ≡ true

-- `Jn`, `n` and `Mm.w.d`
pub record IsJulian (text : List ℕ) (n : ℕ) : Type 0 where
  pub digits : List ℕ
  pub text_is : text ≡ 74 ∷ digits
  pub number : IsNumber 1 3 1 365 digits n

pub record IsWeek (text : List ℕ) (month week weekday : ℕ) : Type 0 where
  pub month_text : List ℕ
  pub week_text : List ℕ
  pub weekday_text : List ℕ
  pub text_is : text ≡ 77 ∷ (month_text ++ 46 ∷ (week_text ++ 46 ∷ weekday_text))
  pub months : IsNumber 1 2 1 12 month_text month
  pub weeks : IsNumber 1 2 1 5 week_text week
  pub weekdays : IsNumber 1 2 0 6 weekday_text weekday

abbrev pub IsDay : List ℕ → DayForm → Type 0
IsDay text (day.Julian n) = IsJulian text n
IsDay text (day.YearDay n) = IsNumber 1 3 0 365 text n
IsDay text (day.Week month week weekday) = IsWeek text month week weekday

-- `/` and a time, or nothing, which is two o'clock
pub record IsTime (text : List ℕ) (time : ℤ) : Type 0 where
  pub time_text : List ℕ
  pub text_is : text ≡ 47 ∷ time_text
  pub signed : IsSignedNumber 3 167 time_text time

pub record IsTwo (text : List ℕ) (time : ℤ) : Type 0 where
  pub text_is : text ≡ []
  pub value : time ≡ pos 7200

pub record IsDate (text : List ℕ) (date : Date) : Type 0 where
  pub day_text : List ℕ
  pub time_text : List ℕ
  pub text_is : text ≡ day_text ++ time_text
  pub day : IsDay day_text date.day
  pub time : IsTime time_text date.time ⊎ IsTwo time_text date.time

-- a daylight state and two dates, with `,` before each
pub record IsRule (std : ℤ) (text : List ℕ) (rule : DstRule) : Type 0 where
  pub dst_text : List ℕ
  pub start_text : List ℕ
  pub end_text : List ℕ
  pub text_is : text ≡ dst_text ++ 44 ∷ (start_text ++ 44 ∷ end_text)
  pub dst : IsDaylight std dst_text rule.dst
  pub start : IsDate start_text rule.start
  pub end : IsDate end_text rule.end

-- the rule, if there is one, and otherwise nothing
abbrev pub IsRuleIfAny : ℤ → List ℕ → Option DstRule → Type 0
IsRuleIfAny std text None = text ≡ []
IsRuleIfAny std text (Some rule) = IsRule std text rule

-- the whole text spells the footer
pub record SpellsFooter (text : List ℕ) (footer : Footer) : Type 0 where
  pub std_text : List ℕ
  pub rule_text : List ℕ
  pub text_is : text ≡ std_text ++ rule_text
  pub std : IsStandard std_text footer.std
  pub rule : IsRuleIfAny footer.std.offset rule_text footer.dst
