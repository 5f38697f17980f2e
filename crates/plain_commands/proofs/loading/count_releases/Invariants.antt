use Rattle.std.proofs.Common.{◌≡◌, ◌≤◌, ◌-◌, length}
use Rattle.catalogue.specs.Holdings.{history_of}
use Rattle.run_ends.specs.Running.Loading.{Loads}
use Rattle.plain_commands.proofs.loading.count_releases.Given as goal

abbrev pub invariant-releases : goal.invariant-releases
invariant-releases g l = record {
  least : 1 ≤ l.made;
  within : l.made ≤ l.plan.number;
  number : length l.installer.list ≡ l.made;
  paired : l.desk.pair ≡ l.installer.pair;
  seen : l.desk.seen ≡ l.installer.list;
  loads : Loads (history_of l.installer.list) l.counts;
}

abbrev pub decreases-releases : goal.decreases-releases
decreases-releases g l = l.plan.number - l.made
