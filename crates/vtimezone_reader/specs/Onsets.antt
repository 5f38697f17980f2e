-- The onsets of the parts of a time zone (RFC 5545, section 3.6.5), and the state after the latest.
use Rattle.std.specs.Prelude.{ℕ, zero, suc, List, [], ◌∷◌, Bool, true, false, ◌&&◌, ◌||◌, int_le, ℤ}
use Rattle.std.specs.Prelude.{pos, ◌+ℤ◌, ◌-ℤ◌, unsigned_abs, Option, None, Some, if◌then◌else◌}
use Rattle.std.specs.Int.{int_div_euclid}
use Rattle.std.specs.List.{list_any}
use Rattle.std.specs.Option.{option_or}
use Rattle.std.specs.Ordering.{int_eq}
use Rattle.td_civil.specs.declared.moment_type.Moment.{Moment}
use Rattle.td_civil.specs.declared.moment_type.TheConstants.{LO}
use Rattle.td_civil.specs.declared.local_time.Local.{Local}
use Rattle.recurrence.specs.declared.part_types.Part.{Part}
use Rattle.recurrence.specs.declared.rule_types.Rule.{Rule}
use Rattle.recurrence.specs.InForce.{state_of_part}
use Rattle.recurrence.specs.Occurs.{moment_of}
use Rattle.vtimezone_reader.specs.FallsOn.{falls_on}

-- whether one of the moments is this one
abbrev pub is_among : List Moment → ℤ → Bool
is_among dates t = list_any (λ m. int_eq m.seconds t) dates

abbrev pub is_not_after : Option Moment → ℤ → Bool
is_not_after None t = true
is_not_after (Some until) t = int_le t until.seconds

-- the day that clocks so many seconds east of UTC show
abbrev pub day_shown : ℤ → ℤ → ℤ
day_shown offset t = int_div_euclid (t +ℤ offset) (pos 86400)

-- whether the rule falls at t, from the part's start to its end, by the clocks before it
unfoldable pub is_rule_onset : Part → Rule → ℤ → Bool
is_rule_onset p rule t =
    int_eq (moment_of rule p.from (day_shown p.from t)) t
    && falls_on rule.form (day_shown p.from t)
    && int_le p.start.seconds t && is_not_after p.until t

abbrev pub is_onset_of : Option Rule → Part → ℤ → Bool
is_onset_of None p t = false
is_onset_of (Some rule) p t = is_rule_onset p rule t

-- the onsets of a part are its start, its dates and the moments of its rule
unfoldable pub has_onset : Part → ℤ → Bool
has_onset p t = int_eq p.start.seconds t || is_among p.dates t || is_onset_of p.rule p t

-- the part that has an onset at t: of several the later one
unfoldable pub begun_at : List Part → ℤ → Option Part
begun_at [] t = None
begun_at (p ∷ ps) t = option_or (begun_at ps t) (if has_onset p t then Some p else None)

-- before the first onset there is no state; this stands for none
abbrev pub no_state : Local
no_state = record { offset = pos 0; dst = false; name = [] }

abbrev pub state_or : Option Part → Local → Local
state_or None before = before
state_or (Some p) before = state_of_part p

-- the state after the latest onset among t and the n seconds before it
unfoldable pub state_since : List Part → ℕ → ℤ → Local
state_since parts zero t = no_state
state_since parts (suc n) t = state_or (begun_at parts t) (state_since parts n (t -ℤ pos 1))

-- the state of the calendar at t: that after the latest onset not after t
unfoldable pub calendar_state : List Part → ℤ → Local
calendar_state parts t = state_since parts (unsigned_abs ((t +ℤ pos 1) -ℤ LO)) t
