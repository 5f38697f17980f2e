use Rattle.std.proofs.Common.{◌≡◌, ◌++◌, drop}
use Rattle.std.specs.List.{AllByRecursion, flat_map}
use Rattle.td_civil.specs.Bounds.{IsWithinBounds}
use Rattle.run_ends.specs.Running.CalendarMirroring.{observance_line}
use Rattle.plain_commands.proofs.calendar_mirroring.zone_text.put_observances.Given as goal

abbrev pub invariant-loop-observance : goal.invariant-loop-observance
invariant-loop-observance l = record {
  whole : l.out ++ flat_map observance_line (drop l.observance-index l.told) ≡ l.initial.out ++ flat_map observance_line l.told;
  meant : AllByRecursion (λ o. IsWithinBounds o.onset.seconds) (drop l.observance-index l.told);
}
