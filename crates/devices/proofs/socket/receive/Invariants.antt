use Rattle.std.specs.Io.KnownBytes.{Keeps}
use Rattle.devices.proofs.socket.receive.Given as goal

abbrev pub invariant-loop : goal.invariant-loop
invariant-loop g l = Keeps (g.R.Read.remaining l.fn.stream) (g.R.Read.remaining l.stream)
