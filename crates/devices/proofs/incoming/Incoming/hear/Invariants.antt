use Rattle.std.specs.Io.KnownBytes.{Keeps}
use Rattle.devices.specs.Flows.{to_give}
use Rattle.devices.proofs.incoming.Incoming.hear.Given as goal

abbrev pub invariant-loop : goal.invariant-loop
invariant-loop g l = Keeps (to_give l.fn.self (g.R.Read.remaining l.fn.stream)) (to_give l.self (g.R.Read.remaining l.stream))
