-- Rules of each year, read (RFC 5545, section 3.3.10): words between semicolons, each a name, `=`
-- and a value.
use Rattle.std.specs.Prelude.{ℕ, List, codes, Bool}
use Rattle.std.specs.Prelude.{◌&&◌, ◌||◌, if◌then◌else◌, ℤ}
use Rattle.std.specs.Prelude.{Option, None}
use Rattle.std.specs.List.{list_all}
use Rattle.std.specs.Option.{option_and_then}
use Rattle.std.specs.Str.{all_ascii_digits, bytes_eq}
use Rattle.recurrence.specs.declared.rule_types.Form.{Form}
use Rattle.recurrence.specs.AllRead.{all_read}
use Rattle.recurrence.specs.FormFields.{form_read}
use Rattle.recurrence.specs.PartFields.{Recur, recur_with_fields}
use Rattle.recurrence.specs.Weekdays.{Day, number_of_text, day_of_text}
use Rattle.vtimezone.specs.Cutting.{Named, cut_at, cut_first, values_of, one_if_any}
use Rattle.vtimezone.specs.Cutting.{only_is}
use Rattle.vtimezone.specs.ReadValues.{utc_in}

-- numbers between commas
abbrev pub numbers_in : ℕ → ℕ → List ℕ → Option (List ℤ)
numbers_in places most text = all_read (number_of_text places most) (cut_at 44 text)

-- a month has no sign
unfoldable pub month_in_value : List ℕ → Option ℤ
month_in_value text = if all_ascii_digits text then number_of_text 2 12 text else None

abbrev pub months_in : List ℕ → Option (List ℤ)
months_in text = all_read month_in_value (cut_at 44 text)

abbrev pub days_in_value : List ℕ → Option (List Day)
days_in_value text = all_read day_of_text (cut_at 44 text)

abbrev pub form_in : List Named → Option Form
form_in words =
    form_read (one_if_any months_in (values_of (codes "BYMONTH") words))
    (one_if_any (numbers_in 2 31) (values_of (codes "BYMONTHDAY") words))
    (one_if_any (numbers_in 3 366) (values_of (codes "BYYEARDAY") words))
    (one_if_any days_in_value (values_of (codes "BYDAY") words))

-- the names of words that are read
abbrev pub is_rule_word : Named → Bool
is_rule_word w =
    bytes_eq w.name (codes "FREQ") || bytes_eq w.name (codes "UNTIL")
    || bytes_eq w.name (codes "BYMONTH") || bytes_eq w.name (codes "BYMONTHDAY")
    || bytes_eq w.name (codes "BYYEARDAY") || bytes_eq w.name (codes "BYDAY")

abbrev pub recur_of_named : List Named → Option Recur
recur_of_named words =
    if list_all is_rule_word words && only_is (codes "YEARLY") (values_of (codes "FREQ") words)
    then recur_with_fields (form_in words)
    (one_if_any utc_in (values_of (codes "UNTIL") words)) else None

unfoldable pub recur_in_value : List ℕ → Option Recur
recur_in_value text = option_and_then recur_of_named (all_read (cut_first 61) (cut_at 59 text))
