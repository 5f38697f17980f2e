-- The part of a VTIMEZONE (RFC 5545, section 3.6.5) that its properties give, once each is read.
-- A local time is told by the seconds at which clocks of UTC show it.
use Rattle.std.specs.Prelude.{ℕ, List, map, Bool, ℤ, ◌-ℤ◌, Option, None, Some}
use Rattle.std.specs.Option.{option_map, option_and_then}
use Rattle.td_civil.specs.declared.moment_type.Moment.{Moment}
use Rattle.recurrence.specs.declared.part_types.Part.{Part}
use Rattle.recurrence.specs.declared.rule_types.Form.{Form}
use Rattle.recurrence.specs.declared.rule_types.Rule.{Rule}
use Rattle.recurrence.specs.RuleOfDate.{second_in_day}

-- a form of each year, up to a last moment where there is one
pub record Recur : Type 0 where
  pub form : Form
  pub until : Option Moment

abbrev pub recur_with_fields : Option Form → Option (Option Moment) → Option Recur
recur_with_fields (Some form) (Some until) = Some (record { form = form; until = until })
recur_with_fields form until = None

-- the moment at which clocks so many seconds east of UTC show this local time
abbrev pub shown_at : ℤ → ℤ → Moment
shown_at offset local = record { seconds = local -ℤ offset }

-- a rule has its time of day from the start
abbrev pub rule_at_offset : ℤ → Recur → Rule
rule_at_offset start r = record { form = r.form; second = second_in_day start }

-- the start and the dates are shown by the clocks before them
abbrev pub part_with_fields : Bool → Option ℤ → Option ℤ → Option ℤ → Option (List ℕ)
    → Option (List ℤ)
    → Option (Option Recur) → Option Part
part_with_fields dst (Some start) (Some from) (Some to) (Some name) (Some dates) (Some recur) =
    Some (record {
      dst = dst;
      start = shown_at from start;
      from = from;
      to = to;
      name = name;
      rule = option_map (rule_at_offset start) recur;
      until = option_and_then (λ r. r.until) recur;
      dates = map (shown_at from) dates;
    })
part_with_fields dst start from to name dates recur = None
