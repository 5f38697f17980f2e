use Rattle.std.proofs.Common.{None}
use Rattle.td_base.proofs.lemmas.LaterLemmas.{sink_refl}
use Rattle.plain_commands.proofs.CalendarRuns.{ran, ran_synced, starved_ends, unreached_ends}
use Rattle.run_ends.proofs.lemmas.Runs.{runs_as}
use Rattle.plain_commands.proofs.calendar_mirroring.mirror_calendars.Goals as goal

pub returns-in-Given : goal.returns-in-Given
returns-in-Given g c = λ store input spawner. runs_as _ _ _ _ _ _
    (rw (c.after.ensures.doors, c.after.ensures.status, c.after.ensures.up, c.closed.ensures.doors, c.closed.ensures.status)
    (ran_synced c.args.plan.now.upstream.now _ _ store input _ _ spawner g.N.Up.Upstream.seen _ _ c.in-Given.server _ _
    c.in-Given.ensures.reaches c.print_calendars-status.ensures
    (record { hold = c.syncs_hold.ensures; told = c.calendars_are_told.ensures }) c.requires))

pub returns-in-Failed : goal.returns-in-Failed
returns-in-Failed g c = λ store input spawner asked same.
    c.closed-in-Failed.ensures.ends asked _ _ g.N.Door.Door.seen g.N.Up.Upstream.seen
    (runs_as _ _ _ _ _ _ (ran c.args.plan.now.upstream.now _ _ store input _ _ spawner _ _ None _ c.in-Failed.ensures.reaches.later (sink_refl _)
    (unreached_ends c.args.plan.now.upstream.now _ _ store input _ _ spawner g.N.Up.Upstream.seen _ c.in-Failed.ensures.reaches)) asked same)

pub returns-in-NoMemory : goal.returns-in-NoMemory
returns-in-NoMemory g c = λ store input spawner asked same.
    c.closed-in-NoMemory.ensures.ends asked _ _ g.N.Door.Door.seen g.N.Up.Upstream.seen
    (runs_as _ _ _ _ _ _ (ran c.args.plan.now.upstream.now _ _ store input _ _ spawner _ _ None _ c.in-NoMemory.ensures.reaches.later (sink_refl _)
    (starved_ends c.args.plan.now.upstream.now _ _ store input _ _ spawner g.N.Up.Upstream.seen _ c.in-NoMemory.ensures.reaches)) asked same)
