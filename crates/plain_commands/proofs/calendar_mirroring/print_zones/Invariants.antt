use Rattle.std.specs.Prelude.{drop, take}
use Rattle.std.specs.List.{AllByRecursion}
use Rattle.run_ends.specs.Running.CalendarMirroring.{KeepsCalendar}
use Rattle.plain_commands.specs.CalendarSteps.{PrintedTo}
use Rattle.plain_commands.proofs.calendar_mirroring.print_zones.Given as goal

abbrev pub invariant-loop-zone : goal.invariant-loop-zone
invariant-loop-zone g l = record {
  printed : PrintedTo l.mirror.files l.plan.start.seconds l.plan.end.seconds (take l.zone-index l.zones) (g.K.Sink.seen l.fn.output) (g.K.Sink.seen l.output);
  kept : AllByRecursion (λ z. KeepsCalendar l.mirror.files z.tzid) (drop l.zone-index l.zones);
}
