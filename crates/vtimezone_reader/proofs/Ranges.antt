-- Days that no month has.
use Rattle.std.proofs.Common.{◌≡◌, ℕ, refl, sym, arith, ℤ, pos, negsuc, ◌<ℤ◌, Option, None, Some}
use Rattle.std.proofs.lemmas.Bool.{cond_both, cond-false}
use Rattle.jiff_core.proofs.CalendarLemmas.{days_in_month_bounds}
use Rattle.jiff_core.proofs.SignedLemmas.{signed_arith}
use Rattle.recurrence.specs.declared.rule_types.Form.{Form}
use Rattle.recurrence.specs.declared.rule_types.Form.TheVariants as form
use Rattle.recurrence.specs.Valid.{IsValidForm}
use Rattle.vtimezone_reader.specs.ValidForms.{is_valid_form}
use Rattle.vtimezone_reader.proofs.Validity.{valid_is}
use Rattle.vtimezone_reader.specs.declared.rule_words.Days.{Days}
use Rattle.vtimezone_reader.specs.declared.rule_words.WeekDay.{WeekDay}
use Rattle.vtimezone_reader.specs.RuleWords.{date_form, one_of_month, month_days_form, seven_of_month, valid_only}
use Rattle.vtimezone_reader.proofs.Tests.{not_true}

refused : (f : Form) → (IsValidForm f → ⊥) → None ≡ valid_only (Some f)
refused f h = sym (cond-false (is_valid_form f) (Some f) None (not_true (is_valid_form f) (λ e. h (valid_is f e))))

date_low : (month : ℕ) (z : ℤ) → z <ℤ pos 1 → None ≡ valid_only (date_form month z)
date_low month (pos n) h = refused (form.FixedDate month n) (λ v. omega (arith, signed_arith, v.1, h))
date_low month (negsuc n) h = refl

date_high : (month : ℕ) (z : ℤ) → pos 31 <ℤ z → None ≡ valid_only (date_form month z)
date_high month (pos n) h = refused (form.FixedDate month n) (λ v. omega (arith, signed_arith, v.1, h, days_in_month_bounds (pos 2001) month))
date_high month (negsuc n) h = refl

pub date_below : (month : ℕ) (days : Days) → days.first <ℤ pos 1 → None ≡ valid_only (one_of_month month days)
date_below month days h = cond_both days.seven None (date_form month days.first) (λ o. None ≡ valid_only o) (λ _. refl) (λ _. date_low month days.first h)

pub date_above : (month : ℕ) (days : Days) → pos 31 <ℤ days.first → None ≡ valid_only (one_of_month month days)
date_above month days h = cond_both days.seven None (date_form month days.first) (λ o. None ≡ valid_only o) (λ _. refl) (λ _. date_high month days.first h)

days_low : (month weekday : ℕ) (nth : Option ℤ) (z : ℤ) → z <ℤ pos 1 → None ≡ valid_only (month_days_form month weekday nth z)
days_low month weekday (Some nth) z h = refl
days_low month weekday None (pos n) h = refused (form.MonthDays month n weekday) (λ v. omega (arith, signed_arith, v.1, h))
days_low month weekday None (negsuc n) h = refl

days_high : (month weekday : ℕ) (nth : Option ℤ) (z : ℤ) → pos 31 <ℤ z → None ≡ valid_only (month_days_form month weekday nth z)
days_high month weekday (Some nth) z h = refl
days_high month weekday None (pos n) h = refused (form.MonthDays month n weekday)
    (λ v. omega (arith, signed_arith, v.1, h, days_in_month_bounds (pos 2001) month))
days_high month weekday None (negsuc n) h = refl

pub days_below : (month : ℕ) (days : Days) (d : WeekDay) → days.first <ℤ pos 1 → None ≡ valid_only (seven_of_month month days d)
days_below month days d h =
    cond_both days.seven (month_days_form month d.weekday d.nth days.first) None (λ o. None ≡ valid_only o) (λ _. days_low month d.weekday d.nth days.first h)
    (λ _. refl)

pub days_above : (month : ℕ) (days : Days) (d : WeekDay) → pos 31 <ℤ days.first → None ≡ valid_only (seven_of_month month days d)
days_above month days d h =
    cond_both days.seven (month_days_form month d.weekday d.nth days.first) None (λ o. None ≡ valid_only o) (λ _. days_high month d.weekday d.nth days.first h)
    (λ _. refl)
