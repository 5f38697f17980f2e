use Rattle.std.proofs.Common.{length, ◌-◌, ◌≤◌}
use Rattle.td_base.specs.declared.report.TheConstants.{MOST_PLACES}
use Rattle.connection.specs.Answering.{IsServing}
use Rattle.connection.specs.Entering.{EntersEach}
use Rattle.connection.specs.Hearing.{most_held}
use Rattle.connection.specs.Keeping.{ComputesFew, KeepsAnswers}
use Rattle.connection.proofs.ComputingLemmas.{HasBegun}
use Rattle.connection.proofs.serving.answer_requests.Given as goal

abbrev pub invariant-requests : goal.invariant-requests
invariant-requests g l = record {
  serving : IsServing l.desk l.role (g.C.Conn.seen l.fn.conn) (g.C.Conn.seen l.conn) l.heads.rest l.places;
  enters : EntersEach l.fn.desk l.places l.desk;
  held : l.heads.size ≤ most_held;
  kept : KeepsAnswers l.desk l.role l.kept;
  computed : ComputesFew l.fn.kept.computed l.kept.computed l.fn.places l.places;
  begun : HasBegun l.fn.kept l.kept l.fn.places l.places;
}

abbrev pub decreases-requests : goal.decreases-requests
decreases-requests g l = MOST_PLACES - length l.places
