-- What it is for a date to be the same in every year.
use Rattle.std.specs.Prelude.{◌≡◌, ℕ, ◌+◌, ◌≤◌, false, ℤ, pos, ◌⊎◌, ◌+ℤ◌, ◌≤ℤ◌}
use Rattle.jiff_core.specs.Calendar.{days_from_civil, IsYear, IsCivilDate}
use Rattle.posix_footer.specs.declared.rule_types.DayForm.{DayForm}
use Rattle.posix_footer.specs.declared.rule_types.Date.{Date}
use Rattle.posix_footer.specs.Carried.{moved_by, is_by_number, moved_first, moved_last}
use Rattle.posix_footer.specs.Onset.{first_place, more_places}

-- the ith of the days that a form can name in a year, and k days later
abbrev pub possible_day : DayForm → ℤ → ℤ → ℕ → ℤ
possible_day form k y i = days_from_civil y 1 1 +ℤ pos (first_place form y + i) +ℤ k

-- it has one month and day in every year
pub record IsOneDate (form : DayForm) (k : ℤ) (i : ℕ) : Type 0 where
  pub month : ℕ
  pub date : ℕ
  pub there : (y : ℤ) → IsYear y → IsCivilDate y month date
  pub is : (y : ℤ) → IsYear y → possible_day form k y i ≡ days_from_civil y month date

-- from 3 January to 29 December
pub record IsInside (month date : ℕ) : Type 0 where
  pub first : month ≡ 1 → 3 ≤ date
  pub last : month ≡ 12 → date ≤ 29

-- the days that a date can name have one month and day in every year, before its time moves them
-- and after it
pub record HasSameDates (d : Date) : Type 0 where
  pub not_by_number : is_by_number d.day ≡ false
  pub before : (i : ℕ) → i ≤ more_places d.day → IsOneDate d.day (pos 0) i
  pub after : (i : ℕ) → i ≤ more_places d.day → IsOneDate d.day (moved_by d.time) i
  pub inside : (i : ℕ) → (h : i ≤ more_places d.day) → IsInside (after i h).month (after i h).date

-- in the year, one row of days ends and the other begins three days later or more
abbrev pub AreApart : Date → Date → ℤ → Type 0
AreApart a b y =
    ((moved_last a y +ℤ pos 3) ≤ℤ moved_first b y) ⊎ ((moved_last b y +ℤ pos 3) ≤ℤ moved_first a y)
