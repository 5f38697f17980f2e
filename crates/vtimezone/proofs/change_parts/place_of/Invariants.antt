use Rattle.std.proofs.Common.{◌≡◌, drop}
use Rattle.vtimezone.specs.Gathering.{place_from}
use Rattle.vtimezone.proofs.change_parts.place_of.Given as goal

abbrev pub invariant-loop-at : goal.invariant-loop-at
invariant-loop-at l = place_from l.at (drop l.at l.parts) l.change ≡ place_from 0 l.fn.parts l.fn.change
