use Rattle.std.proofs.Common.{ap, ◌∙◌, rules}
use Rattle.td_base.specs.Views.{one_more}
use Rattle.td_base.proofs.FaultyLemmas.{chosen_conn_read, other_conn_read}
use Rattle.td_base.proofs.faulty_conn.FaultyConnConn.read.Goals as goal

pub returns-then-begin-clause-read : goal.returns-then-begin-clause-read
returns-then-begin-clause-read g c =
    rw (← c.self.view_is)
    (chosen_conn_read (g.C.Conn.seen c.self.inside.inner) _ _ _ _
    (c.count_fault.ensures.faults ∙ ap one_more c.begin.ensures.faults)
    (rw (← c.begin.ensures.faults) c.count_fault.ensures.later))

pub returns-then-eq-clause-read : goal.returns-then-eq-clause-read
returns-then-eq-clause-read g c =
    rw (← c.self.view_is)
    (other_conn_read _ _ _ _ _ _ _ c.read-step.ensures.read (search rules)
    (c.count_fault-then-eq.ensures.faults ∙ ap one_more c.begin.ensures.faults)
    (rw (← c.begin.ensures.faults) c.count_fault-then-eq.ensures.later))
