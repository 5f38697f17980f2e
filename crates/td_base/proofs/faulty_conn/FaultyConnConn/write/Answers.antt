use Rattle.std.proofs.Common.{ap, ◌∙◌, rules}
use Rattle.td_base.specs.Views.{one_more}
use Rattle.td_base.proofs.FaultyLemmas.{chosen_conn_write, other_conn_write}
use Rattle.td_base.proofs.faulty_conn.FaultyConnConn.write.Goals as goal

pub returns-then-begin-clause-write : goal.returns-then-begin-clause-write
returns-then-begin-clause-write g c =
    rw (← c.self.view_is)
    (chosen_conn_write (g.C.Conn.seen c.self.inside.inner) _ _ _ _
    (c.count_fault.ensures.faults ∙ ap one_more c.begin.ensures.faults)
    (rw (← c.begin.ensures.faults) c.count_fault.ensures.later))

pub returns-then-eq-clause-write : goal.returns-then-eq-clause-write
returns-then-eq-clause-write g c =
    rw (← c.self.view_is)
    (other_conn_write _ _ _ _ _ _ _ c.write-step.ensures.write (search rules)
    (c.count_fault-then-eq.ensures.faults ∙ ap one_more c.begin.ensures.faults)
    (rw (← c.begin.ensures.faults) c.count_fault-then-eq.ensures.later))
