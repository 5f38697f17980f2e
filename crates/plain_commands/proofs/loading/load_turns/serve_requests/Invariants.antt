use Rattle.std.proofs.Common.{◌≡◌, length}
use Rattle.catalogue.specs.Holdings.{history_of}
use Rattle.made_load.specs.declared.counts.LoadCounts.{LoadCounts}
use Rattle.run_ends.specs.Running.Loading.{AreCounted}
use Rattle.plain_commands.proofs.loading.load_turns.serve_requests.Given as goal

abbrev pub invariant-heads : goal.invariant-heads
invariant-heads l = record {
  seen : l.desk.seen ≡ l.fn.desk.seen;
  pair : l.desk.pair ≡ l.fn.desk.pair;
  counted : (end : LoadCounts) → AreCounted (history_of l.fn.desk.seen) l.left l.counts end
      → AreCounted (history_of l.fn.desk.seen) l.fn.asked l.fn.counts end;
}

abbrev pub decreases-heads : goal.decreases-heads
decreases-heads l = length l.left
