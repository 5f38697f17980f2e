use Rattle.std.proofs.Common.{◌≡◌, ◌≤◌, ◌-◌, length}
use Rattle.std.specs.Io.KnownBytes.{Consumes}
use Rattle.td_base.proofs.transfer.read_to_end.Given as goal

abbrev pub invariant-pieces : goal.invariant-pieces
invariant-pieces g l = record {
  told : Consumes (g.C.Source.seen l.fn.source).left (g.C.Source.seen l.source).left l.held;
  steady : (g.C.Source.seen l.source).faults ≡ (g.C.Source.seen l.fn.source).faults;
  within : length l.held ≤ l.most;
}

abbrev pub decreases-pieces : goal.decreases-pieces
decreases-pieces g l = l.most - length l.held
