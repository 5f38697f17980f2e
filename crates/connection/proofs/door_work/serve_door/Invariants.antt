use Rattle.std.proofs.Common.{◌≡◌, ◌<◌}
use Rattle.connection.specs.FaultCounts.{RoseTimes}
use Rattle.connection.specs.Keeping.{KeepsAnswers}
use Rattle.connection.specs.Rounds.{HasServed}
use Rattle.connection.specs.declared.door_work.TheConstants.{MOST_FAILURES}
use Rattle.connection.proofs.door_work.serve_door.Given as goal

abbrev pub invariant-rounds : goal.invariant-rounds
invariant-rounds g l = record {
  served : HasServed l.role (g.D.Door.seen l.fn.door) (g.D.Door.seen l.door) l.fn.desk l.desk;
  flag : l.sign.flag ≡ l.fn.sign.flag;
  rose : RoseTimes l.failures (g.D.Door.seen l.fn.door).faults (g.D.Door.seen l.door).faults;
  few : l.failures < MOST_FAILURES;
  kept : KeepsAnswers l.desk l.role l.kept;
}
