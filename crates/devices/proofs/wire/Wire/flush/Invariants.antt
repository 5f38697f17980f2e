use Rattle.std.specs.Io.KnownBytes.{Keeps}
use Rattle.devices.specs.Flows.{written}
use Rattle.devices.proofs.wire.Wire.flush.Given as goal

abbrev pub invariant-loop : goal.invariant-loop
invariant-loop g l =
    Keeps (written l.fn.self.outgoing (g.S.Write.contents l.fn.self.stream)) (written l.self.outgoing (g.S.Write.contents l.self.stream))
