-- The parts that a calendar can write and that are read back.
use Rattle.std.specs.Prelude.{◌≡◌, ℕ, List, Option, None, Some}
use Rattle.std.specs.Option.{IfSome}
use Rattle.td_civil.specs.declared.moment_type.Moment.{Moment}
use Rattle.td_civil.specs.Bounds.{HasMeaning}
use Rattle.recurrence.specs.declared.part_types.Part.{Part}
use Rattle.recurrence.specs.declared.rule_types.Rule.{Rule}
use Rattle.vtimezone.specs.ZoneParts.{range_parts}
use Rattle.vtimezone_reader.specs.declared.calendar_type.Calendar.{Calendar}
use Rattle.vtimezone_reader.specs.PartLines.{name_in}
use Rattle.vtimezone_reader.specs.Sound.{IsSoundPart}

-- only a rule has a last onset
abbrev pub HasLast : Option Rule → Option Moment → Type 0
HasLast None until = until ≡ None
HasLast (Some rule) until = IfSome until (λ m. HasMeaning m.seconds)

-- a sound part whose name is visible
pub record IsWrittenPart (p : Part) : Type 0 where
  pub sound : IsSoundPart p
  pub name : name_in p.name ≡ Some p.name
  pub until : HasLast p.rule p.until

-- the calendar of what is written
abbrev pub written_calendar : List ℕ → Option (List ℕ) → List Part → Option Moment → Calendar
written_calendar tzid alias_of parts until =
    record { tzid = tzid; alias_of = alias_of; until = until; parts = parts }

-- the parts of a zone from a moment on, without an end
abbrev pub parts_after : List ℕ → Moment → List Part
parts_after file from = range_parts file (record { from = from; until = None })
