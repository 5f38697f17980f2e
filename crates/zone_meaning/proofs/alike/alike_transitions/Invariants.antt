use Rattle.zone_meaning.specs.Alike.{AreAlikeUpTo}
use Rattle.zone_meaning.proofs.alike.alike_transitions.Given as goal

abbrev pub invariant-loop-place : goal.invariant-loop-place
invariant-loop-place l = AreAlikeUpTo l.one l.two l.place
