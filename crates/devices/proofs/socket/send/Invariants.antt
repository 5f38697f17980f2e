use Rattle.std.specs.Io.KnownBytes.{Keeps}
use Rattle.devices.proofs.socket.send.Given as goal

abbrev pub invariant-loop : goal.invariant-loop
invariant-loop g l = Keeps (g.W.Write.contents l.fn.stream) (g.W.Write.contents l.stream)
