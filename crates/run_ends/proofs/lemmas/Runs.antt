-- From what a run does to what a run that is asked for so comes to.
use Rattle.std.proofs.Common.{ℕ, [], Option, None, refl, subst, arith}
use Rattle.std.specs.Prelude.{List}
use Rattle.td_base.specs.DoorViews.{DoorView, NetworkView}
use Rattle.td_base.specs.Upstreams.{UpstreamView}
use Rattle.run_ends.specs.Commands.{PlainCommand}
use Rattle.run_ends.specs.Outside.{Outside, World, world}
use Rattle.run_ends.specs.Running.{HasRun, RunEnds, RunEndsLater, RunsAlone, RunsAs, ServesNobody}
use Rattle.run_ends.specs.declared.status.Status.{Status}
use Rattle.run_ends.proofs.lemmas.Endings.{EndsLater}

-- no door was served and no server followed
nobody : (before after : Outside) (n : NetworkView) (r : ℕ) → ServesNobody (world before n r) (world after n r) [] None
nobody before after n r = record { network = refl; spawner = refl; no_door = refl; no_server = refl }

-- what a run that is asked for so comes to
pub runs_as : (spelled : Option PlainCommand) (before after : World) (doors : List DoorView) (up : Option UpstreamView) (is : Status)
    → RunEndsLater spelled before after doors up is → RunsAs spelled before after doors up is
unfolding HasRun
runs_as spelled before after doors up is h = λ asked same. subst (λ a. RunEndsLater a before after doors up is) same h

-- a run over the store, the input and the output
pub runs_alone : (ends_so : Outside → Outside → Status → Type 0) (spelled : Option PlainCommand) (before after : Outside) (end : Status)
    → ((n : NetworkView) (r : ℕ) → ends_so before after end → ServesNobody (world before n r) (world after n r) [] None
    → RunEnds spelled (world before n r) (world after n r) [] None end)
    → EndsLater ends_so before after end → RunsAlone spelled before after end
runs_alone ends_so spelled before after end row h = λ n r.
    runs_as spelled (world before n r) (world after n r) [] None end (record {
      ends = row n r h.ends (nobody before after n r);
      later = record { outside = h.later; network = omega arith; spawner = omega arith };
    })
