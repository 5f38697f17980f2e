-- The ranges that a footer keeps.
use Rattle.std.specs.Prelude.{◌≡◌, ◌≤◌, ℤ, Option, None, Some, true, false, ⊤}
use Rattle.jiff_core.specs.Calendar.{IsWithin}
use Rattle.posix_footer.specs.declared.rule_types.DayForm.{DayForm}
use Rattle.posix_footer.specs.declared.rule_types.DayForm.TheVariants as day
use Rattle.posix_footer.specs.declared.rule_types.Date.{Date}
use Rattle.posix_footer.specs.declared.rule_types.DstRule.{DstRule}
use Rattle.posix_footer.specs.declared.rule_types.Footer.{Footer}

-- the days that the forms can name
abbrev pub IsLawfulDay : DayForm → Type 0
IsLawfulDay (day.Julian n) = (1 ≤ n) × (n ≤ 365)
IsLawfulDay (day.YearDay n) = n ≤ 365
IsLawfulDay (day.Week month week weekday) =
    (1 ≤ month) × (month ≤ 12) × (1 ≤ week) × (week ≤ 5) × (weekday ≤ 6)

-- such a day, and a time of less than a week and an hour to either side
pub record IsLawfulDate (d : Date) : Type 0 where
  pub day : IsLawfulDay d.day
  pub time : IsWithin 604799 d.time

-- an offset of less than a day
abbrev pub IsLawfulOffset : ℤ → Type 0
IsLawfulOffset offset = IsWithin 86399 offset

-- a rule beside its standard offset
pub record IsLawfulRule (std : ℤ) (rule : DstRule) : Type 0 where
  pub offset : IsLawfulOffset std
  pub daylight_offset : IsLawfulOffset rule.dst.offset
  pub daylight : rule.dst.dst ≡ true
  pub start : IsLawfulDate rule.start
  pub end : IsLawfulDate rule.end

-- the rule, if there is one, is lawful beside the standard offset
abbrev pub IsLawfulIfAny : ℤ → Option DstRule → Type 0
IsLawfulIfAny std None = ⊤
IsLawfulIfAny std (Some rule) = IsLawfulRule std rule

-- a standard state and perhaps a daylight one, in their ranges
pub record IsLawful (f : Footer) : Type 0 where
  pub standard : f.std.dst ≡ false
  pub offset : IsLawfulOffset f.std.offset
  pub rule : IsLawfulIfAny f.std.offset f.dst
