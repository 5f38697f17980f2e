use Rattle.std.proofs.Common.{◌≡◌, ◌≤◌, ◌-◌, length, take}
use Rattle.std.specs.Io.KnownBytes.{Appends}
use Rattle.td_base.proofs.transfer.write_whole.Given as goal

abbrev pub invariant-pieces : goal.invariant-pieces
invariant-pieces g l = record {
  told : Appends (g.K.Sink.seen l.fn.sink).taken (g.K.Sink.seen l.sink).taken (take l.at l.bytes);
  steady : (g.K.Sink.seen l.sink).faults ≡ (g.K.Sink.seen l.fn.sink).faults;
  inside : l.at ≤ length l.bytes;
}

abbrev pub decreases-pieces : goal.decreases-pieces
decreases-pieces g l = length l.bytes - l.at
