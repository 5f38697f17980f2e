use Rattle.std.proofs.Common.{◌≡◌, ◌-ℤ◌, unsigned_abs}
use Rattle.zone_meaning.specs.WalkLeft.{left, IsSoundWalk}
use Rattle.zone_meaning.proofs.walk.Walk.next.Given as goal

abbrev pub invariant-loop-stop : goal.invariant-loop-stop
invariant-loop-stop l = record {
  sound : IsSoundWalk l.self;
  same : left l.fn.self ≡ left l.self;
}

abbrev pub decreases-loop-stop : goal.decreases-loop-stop
decreases-loop-stop l = unsigned_abs (l.self.end.seconds -ℤ l.self.at.seconds)
