-- The moments of a rule, and what it is for rules to say what a footer says.
use Rattle.std.specs.Prelude.{◌≡◌, ℤ, pos, ◌+ℤ◌, ◌-ℤ◌, ◌*ℤ◌, ◌<ℤ◌, Some}
use Rattle.jiff_core.specs.Calendar.{IsYear}
use Rattle.td_civil.specs.Bounds.{HasMeaning}
use Rattle.posix_footer.specs.declared.rule_types.Edge.{Edge}
use Rattle.posix_footer.specs.declared.rule_types.Edge.TheVariants as edge
use Rattle.posix_footer.specs.declared.rule_types.DstRule.{DstRule}
use Rattle.posix_footer.specs.declared.rule_types.Footer.{Footer}
use Rattle.posix_footer.specs.Onset.{onset_of}
use Rattle.posix_footer.specs.StateAt.{state_of}
use Rattle.recurrence.specs.declared.rule_types.Form.{Form}
use Rattle.recurrence.specs.declared.rule_types.Rule.{Rule}
use Rattle.recurrence.specs.declared.rule_types.Carried.{Carried}
use Rattle.recurrence.specs.declared.rule_types.Carried.TheVariants as carried
use Rattle.recurrence.specs.Falls.{Falls, IsOfYear}
use Rattle.recurrence.specs.Valid.{IsValid}

-- the one day of the year on which a form falls
pub record IsOccurrence (form : Form) (y day : ℤ) : Type 0 where
  pub within : IsOfYear y day
  pub falls : Falls form day
  pub only : (other : ℤ) → IsOfYear y other → Falls form other → other ≡ day

-- the moment of a day and a second, by clocks that are so many seconds east of UTC
abbrev pub moment_of : Rule → ℤ → ℤ → ℤ
moment_of rule offset day = ((day *ℤ pos 86400) +ℤ pos rule.second) -ℤ offset

-- the rule falls on one day of the year, and by clocks of this offset that is this moment
pub record FallsAt (rule : Rule) (offset y moment : ℤ) : Type 0 where
  pub day : ℤ
  pub occurs : IsOccurrence rule.form y day
  pub moment_is : moment_of rule offset day ≡ moment

-- two rules fall on the two changes of a year, each by the clocks in force before it
pub record KeepsOnsets (rule : DstRule) (std : ℤ) (start end : Rule) (y : ℤ) : Type 0 where
  pub start_falls : FallsAt start std y (onset_of rule std y edge.Start)
  pub end_falls : FallsAt end rule.dst.offset y (onset_of rule std y edge.End)

-- two rules stand for the changes of a rule of a footer, in each year
pub record AreRulesOf (std : ℤ) (rule : DstRule) (start end : Rule) : Type 0 where
  pub start_valid : IsValid start
  pub end_valid : IsValid end
  pub each_year : (y : ℤ) → IsYear y → KeepsOnsets rule std start end y

-- The states and rules say what a footer says: one state at each moment that has a meaning, or the
-- two states of the footer with a rule for each change
abbrev pub Says : Footer → Carried → Type 0
Says footer (carried.Constant state) = (t : ℤ) → HasMeaning t → state_of footer t ≡ state
Says footer (carried.Pair std dst start end) =
    (rule : DstRule) × (footer.dst ≡ Some rule) × (std ≡ footer.std) × (dst ≡ rule.dst)
    × AreRulesOf footer.std.offset rule start end

-- in every year one change comes before the other
abbrev pub AreInOrder : DstRule → ℤ → Edge → Edge → Type 0
AreInOrder rule std first second = (y : ℤ) → onset_of rule std y first <ℤ onset_of rule std y second
