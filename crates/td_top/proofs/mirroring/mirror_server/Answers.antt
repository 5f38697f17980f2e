use Rattle.std.proofs.Common.{None, refl}
use Rattle.run_ends.specs.Running.Mirroring.{out_of_memory}
use Rattle.td_top.proofs.MirrorRuns.{not_ran, ran_mirror, unreached_ends}
use Rattle.run_ends.proofs.lemmas.Reaching.{reaches_server}
use Rattle.run_ends.proofs.lemmas.Runs.{runs_as}
use Rattle.td_top.proofs.mirroring.mirror_server.Goals as goal

pub returns-in-Given-clause-ends : goal.returns-in-Given-clause-ends
returns-in-Given-clause-ends g c = λ store. runs_as _ _ _ _ _ _ (rw (c.after.ensures.doors, c.after.ensures.status, c.after.ensures.up)
    (ran_mirror c.args.words.now.address.now c.args.words.now.workers c.args.words.now.upstream.now store _ _ _ _
    (record {
      in_turn = c.mirrors_hold_in_turn.ensures;
      go_on = c.histories_go_on.ensures;
      held = c.releases_are_held.ensures;
      stated = c.contents_are_held.ensures;
    }) _ _ _ _ _ _ _ _ _ _ _ _
    (reaches_server g.N.Up.Upstream.seen _ _ c.args.words.now.upstream.now c.in-Given.server c.in-Given.ensures.reaches) c.in-Given.ensures.reaches.later
    (rw c.empty.ensures at c.follow_on-served.ensures.ends) refl))

pub returns-in-Failed-clause-ends : goal.returns-in-Failed-clause-ends
returns-in-Failed-clause-ends g c = λ store asked same.
    c.closed.ensures.ends asked _ _ g.N.Door.Door.seen g.N.Up.Upstream.seen
    (not_ran c.args.words.now.address.now c.args.words.now.workers c.args.words.now.upstream.now store _ _ _ _ _ _ c.in-Failed.ensures.reaches.later
    (unreached_ends c.args.words.now.address.now c.args.words.now.workers c.args.words.now.upstream.now store _ _ _ _ g.N.Up.Upstream.seen _
    c.in-Failed.ensures.reaches) asked same)

pub returns-in-NoMemory-clause-ends : goal.returns-in-NoMemory-clause-ends
returns-in-NoMemory-clause-ends g c = λ store asked same.
    c.closed-in-NoMemory.ensures.ends asked _ _ g.N.Door.Door.seen g.N.Up.Upstream.seen
    (not_ran c.args.words.now.address.now c.args.words.now.workers c.args.words.now.upstream.now store _ _ _ _ _ _ c.in-NoMemory.ensures.reaches.later
    (out_of_memory None) asked same)
