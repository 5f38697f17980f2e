use Rattle.std.proofs.Common.{sym, subst}
use Rattle.std.specs.List.{AllByRecursion}
use Rattle.run_ends.specs.Running.CalendarMirroring.{KeepsCalendar}
use Rattle.plain_commands.proofs.CalendarRuns.{not_synced, synced}
use Rattle.plain_commands.proofs.KeptCalendars.{each_kept}
use Rattle.plain_commands.proofs.calendar_mirroring.print_calendars.Goals as goal

pub print_zones-requires-clause-kept : goal.print_zones-requires-clause-kept
print_zones-requires-clause-kept g c =
    subst (AllByRecursion (λ z. KeepsCalendar c.sync.new.mirror.files z.tzid)) (sym c.entries.ensures.entries)
    (each_kept _ _ _ _ _ c.empty-mirror.ensures c.in-Ok.ensures.syncs c.in-Ok.ensures.settled)

pub returns-in-Ok : goal.returns-in-Ok
returns-in-Ok g c =
    synced c.args.plan.now.upstream.now _ _ _ _ _ _ _ _ (rw c.empty-mirror.ensures at c.in-Ok.ensures.syncs) c.print_zones.ensures

pub returns : goal.returns
returns g c =
    not_synced c.args.plan.now.upstream.now _ _ _ _ _ c.in-Err.fault _ _ _ (rw c.empty-mirror.ensures at c.in-Err.ensures.syncs)
    c.refuse_sync.ensures
