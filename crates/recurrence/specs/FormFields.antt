-- The fields of a rule of each year, and the form that they name (RFC 5545, section 3.3.10):
-- months, days of the month, days of the year, and weekdays.
use Rattle.std.specs.Prelude.{ℕ, ◌==◌, List, [], ◌∷◌, length, Bool, true, ◌&&◌, if◌then◌else◌, ℤ}
use Rattle.std.specs.Prelude.{pos, ◌+ℤ◌, Option, None, Some}
use Rattle.std.specs.Option.{option_map}
use Rattle.std.specs.Ordering.{int_eq}
use Rattle.recurrence.specs.declared.rule_types.Form.{Form}
use Rattle.recurrence.specs.declared.rule_types.Form.TheVariants as form
use Rattle.recurrence.specs.Weekdays.{Day}

-- whether each number is one more than the one before it
abbrev pub are_in_a_row : ℤ → List ℤ → Bool
are_in_a_row z [] = true
are_in_a_row z (n ∷ ns) = int_eq n (z +ℤ pos 1) && are_in_a_row n ns

-- the first of seven numbers in a row
unfoldable pub week_from : List ℤ → Option ℤ
week_from [] = None
week_from (z ∷ zs) = if length zs == 6 && are_in_a_row z zs then Some z else None

abbrev pub form_on_month_days : ℕ → ℕ → Option ℤ → Option Form
form_on_month_days month weekday (Some (pos first)) = Some (form.MonthDays month first weekday)
form_on_month_days month weekday first = None

-- the form of months, days of the month and days of the year, with one weekday
abbrev pub form_on : Option (List ℤ) → Option (List ℤ) → Option (List ℤ) → Option ℤ → ℕ
    → Option Form
form_on (Some (pos month ∷ [])) None None (Some nth) weekday = Some (form.NthDay month nth weekday)
form_on (Some (pos month ∷ [])) (Some days) None None weekday =
    form_on_month_days month weekday (week_from days)
form_on None None (Some days) None weekday =
    option_map (λ first. form.YearDays first weekday) (week_from days)
form_on months month_days year_days nth weekday = None

-- and with none
abbrev pub form_without : Option (List ℤ) → Option (List ℤ) → Option (List ℤ) → Option Form
form_without (Some (pos month ∷ [])) (Some (pos day ∷ [])) None = Some (form.FixedDate month day)
form_without months month_days year_days = None

abbrev pub form_of_fields : Option (List ℤ) → Option (List ℤ) → Option (List ℤ) → Option (List Day)
    → Option Form
form_of_fields months month_days year_days None = form_without months month_days year_days
form_of_fields months month_days year_days (Some (d ∷ [])) =
    form_on months month_days year_days d.nth d.weekday
form_of_fields months month_days year_days (Some days) = None

-- the same, where each field is one that can be read
abbrev pub form_read : Option (Option (List ℤ)) → Option (Option (List ℤ))
    → Option (Option (List ℤ)) → Option (Option (List Day)) → Option Form
form_read (Some months) (Some month_days) (Some year_days) (Some days) =
    form_of_fields months month_days year_days days
form_read months month_days year_days days = None
