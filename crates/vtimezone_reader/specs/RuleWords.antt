-- Rules of each year, read (RFC 5545, section 3.3.10): words between semicolons, each a name, `=`
-- and a value, in any order and each name once.
use Rattle.std.specs.Prelude.{ℕ, ◌+◌, ◌-◌, ◌==◌, nat_le, List, [], ◌∷◌, length, take}
use Rattle.std.specs.Prelude.{drop}
use Rattle.std.specs.Prelude.{codes, Bool, true, false, not, ◌&&◌, if◌then◌else◌, ℤ, pos}
use Rattle.std.specs.Prelude.{negsuc, ◌+ℤ◌, Option, None, Some}
use Rattle.std.specs.Option.{option_map, option_and_then, is_some}
use Rattle.std.specs.Ordering.{int_eq}
use Rattle.std.specs.Str.{all_ascii_digits, bytes_eq}
use Rattle.std.specs.Str.Parse.{digits_value, without_leading_sign, signed_digits_value}
use Rattle.td_civil.specs.declared.moment_type.Moment.{Moment}
use Rattle.td_civil.specs.Bounds.{has_meaning}
use Rattle.recurrence.specs.declared.rule_types.Form.{Form}
use Rattle.recurrence.specs.declared.rule_types.Form.TheVariants as form
use Rattle.vtimezone.specs.Cutting.{cut_at}
use Rattle.vtimezone.specs.ReadValues.{utc_in}
use Rattle.vtimezone_reader.specs.declared.rule_words.Days.{Days}
use Rattle.vtimezone_reader.specs.declared.rule_words.WeekDay.{WeekDay}
use Rattle.vtimezone_reader.specs.declared.rule_words.Words.{Words}
use Rattle.vtimezone_reader.specs.declared.rule_words.Recur.{Recur}
use Rattle.vtimezone_reader.specs.ContentLines.{is_word}
use Rattle.vtimezone_reader.specs.Pieces.{before, after}
use Rattle.vtimezone_reader.specs.ValidForms.{is_valid_form}

-- one to so many digits
abbrev pub is_short : ℕ → List ℕ → Bool
is_short places digits =
    all_ascii_digits digits && nat_le 1 (length digits) && nat_le (length digits) places

-- a number: so many digits, after a sign or none
unfoldable pub number_in : ℕ → List ℕ → Option ℤ
number_in places text =
    if is_short places (without_leading_sign text) then Some (signed_digits_value 10 text) else None

-- a month: one or two digits
unfoldable pub month_in : List ℕ → Option ℕ
month_in text = if is_short 2 text then Some (digits_value 10 text) else None

-- a weekday, where Sunday is 0
unfoldable pub weekday_in : List ℕ → Option ℕ
weekday_in text =
    if is_word text (codes "SU") then Some 0 else if is_word text (codes "MO") then Some 1
    else if is_word text (codes "TU") then Some 2 else if is_word text (codes "WE") then Some 3
    else if is_word text (codes "TH") then Some 4 else if is_word text (codes "FR") then Some 5
    else if is_word text (codes "SA") then Some 6 else None

-- a weekday after a number or none
abbrev pub nth_in : List ℕ → Option (Option ℤ)
nth_in [] = Some None
nth_in (b ∷ bs) = option_map Some (number_in 2 (b ∷ bs))

abbrev pub day_with : Option (Option ℤ) → Option ℕ → Option WeekDay
day_with (Some nth) (Some weekday) = Some (record { nth = nth; weekday = weekday })
day_with nth weekday = None

unfoldable pub day_in : List ℕ → Option WeekDay
day_in text =
    day_with (nth_in (take (length text - 2) text)) (weekday_in (drop (length text - 2) text))

-- numbers of so many places between commas, each one more than the one before it: one of them, or
-- seven
abbrev pub days_ended : ℤ → ℕ → Option Days
days_ended first count =
    if count == 1 then Some (record { first = first; seven = false })
    else if count == 7 then Some (record { first = first; seven = true }) else None

abbrev pub is_next : ℤ → ℕ → Option ℤ → Bool
is_next first count None = false
is_next first count (Some z) = int_eq z (first +ℤ pos count)

unfoldable pub days_after : ℕ → ℤ → ℕ → List (List ℕ) → Option Days
days_after places first count [] = days_ended first count
days_after places first count (t ∷ ts) =
    if is_next first count (number_in places t) then days_after places first (count + 1) ts
    else None

abbrev pub days_among : ℕ → List (List ℕ) → Option Days
days_among places [] = None
days_among places (t ∷ ts) =
    option_and_then (λ first. days_after places first 1 ts) (number_in places t)

unfoldable pub days_in : ℕ → List ℕ → Option Days
days_in places text = days_among places (cut_at 44 text)

-- what is read, where nothing was read before
abbrev pub once : {A : Type 0} → Option A → Option A → Option A
once None x = x
once (Some before) x = None

abbrev pub once_if : Bool → Bool → Option Bool
once_if before test = if not before && test then Some true else None

abbrev pub moment_meant : Option Moment → Option Moment
moment_meant None = None
moment_meant (Some m) = if has_meaning m.seconds then Some m else None

-- one more word that tells of days
unfoldable pub day_read : Words → List ℕ → List ℕ → Option Words
day_read w name value =
    if is_word name (codes "BYMONTH")
    then option_map (λ m. record w { month = Some m }) (once w.month (month_in value))
    else if is_word name (codes "BYMONTHDAY")
    then option_map (λ d. record w { month_days = Some d }) (once w.month_days (days_in 2 value))
    else if is_word name (codes "BYYEARDAY")
    then option_map (λ d. record w { year_days = Some d }) (once w.year_days (days_in 3 value))
    else if is_word name (codes "BYDAY")
    then option_map (λ d. record w { weekday = Some d }) (once w.weekday (day_in value))
    else None

-- one more word
unfoldable pub word_read : Words → List ℕ → List ℕ → Option Words
word_read w name value =
    if is_word name (codes "FREQ")
    then option_map (λ b. record w { yearly = b })
    (once_if w.yearly (is_word value (codes "YEARLY")))
    else if is_word name (codes "INTERVAL")
    then option_map (λ b. record w { interval = b })
    (once_if w.interval (bytes_eq value (codes "1")))
    else if is_word name (codes "WKST")
    then option_map (λ b. record w { week_start = b })
    (once_if w.week_start (is_some (weekday_in value)))
    else if is_word name (codes "UNTIL")
    then option_map (λ m. record w { until = Some m }) (once w.until (moment_meant (utc_in value)))
    else day_read w name value

-- a word's name stands before its first `=`, and its value after it
abbrev pub word_if : Words → List ℕ → Option (List ℕ) → Option Words
word_if w name None = None
word_if w name (Some value) = word_read w name value

unfoldable pub words_read : Words → List (List ℕ) → Option Words
words_read w [] = Some w
words_read w (t ∷ ts) =
    option_and_then (λ now. words_read now ts) (word_if w (before 61 t) (after 61 t))

abbrev pub no_words : Words
no_words = record {
  yearly = false;
  interval = false;
  week_start = false;
  until = None;
  month = None;
  month_days = None;
  year_days = None;
  weekday = None;
}

-- the forms
abbrev pub nth_form : ℕ → ℕ → Option ℤ → Option Form
nth_form month weekday None = None
nth_form month weekday (Some nth) = Some (form.NthDay month nth weekday)

abbrev pub month_days_form : ℕ → ℕ → Option ℤ → ℤ → Option Form
month_days_form month weekday None (pos first) = Some (form.MonthDays month first weekday)
month_days_form month weekday None (negsuc n) = None
month_days_form month weekday (Some nth) first = None

abbrev pub seven_of_month : ℕ → Days → WeekDay → Option Form
seven_of_month month days d =
    if days.seven then month_days_form month d.weekday d.nth days.first else None

abbrev pub year_days_form : ℕ → Option ℤ → ℤ → Option Form
year_days_form weekday None first = Some (form.YearDays first weekday)
year_days_form weekday (Some nth) first = None

abbrev pub seven_of_year : Days → WeekDay → Option Form
seven_of_year days d =
    if days.seven then year_days_form d.weekday d.nth days.first else None

abbrev pub date_form : ℕ → ℤ → Option Form
date_form month (pos day) = Some (form.FixedDate month day)
date_form month (negsuc n) = None

abbrev pub one_of_month : ℕ → Days → Option Form
one_of_month month days = if days.seven then None else date_form month days.first

-- a month with a number and a weekday; a month with seven days and a weekday; seven days of the
-- year and a weekday; a month with one day
unfoldable pub form_of_words : Option ℕ → Option Days → Option Days → Option WeekDay → Option Form
form_of_words (Some month) None None (Some d) = nth_form month d.weekday d.nth
form_of_words (Some month) (Some days) None (Some d) = seven_of_month month days d
form_of_words None None (Some days) (Some d) = seven_of_year days d
form_of_words (Some month) (Some days) None None = one_of_month month days
form_of_words month month_days year_days weekday = None

abbrev pub valid_only : Option Form → Option Form
valid_only None = None
valid_only (Some f) = if is_valid_form f then Some f else None

abbrev pub recur_with : Option Moment → Option Form → Option Recur
recur_with until None = None
recur_with until (Some f) = Some (record { form = f; until = until })

unfoldable pub recur_of : Words → Option Recur
recur_of w =
    if w.yearly
    then recur_with w.until (valid_only (form_of_words w.month w.month_days w.year_days w.weekday))
    else None

-- a form of each year, up to a last moment where there is one
unfoldable pub recur_in : List ℕ → Option Recur
recur_in text = option_and_then recur_of (words_read no_words (cut_at 59 text))
