use Rattle.std.specs.Option.{IfSome}
use Rattle.vtimezone_reader.specs.Turns.{HasBegun}
use Rattle.vtimezone_reader.proofs.begun.late_onset.Given as goal

abbrev pub invariant-loop-part : goal.invariant-loop-part
invariant-loop-part l = IfSome l.late (λ m. HasBegun l.parts l.t.seconds m.seconds)
