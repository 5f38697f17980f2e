use Rattle.std.proofs.Common.{ap, ◌∙◌, rules}
use Rattle.td_base.specs.Views.{one_more}
use Rattle.td_base.proofs.FaultyLemmas.{chosen_look, other_look}
use Rattle.td_base.proofs.faulty.FaultyStore.read_file.Goals as goal

pub returns-then-begin-clause-look : goal.returns-then-begin-clause-look
returns-then-begin-clause-look g c =
    rw (← c.self.view_is)
    (chosen_look (g.S.Store.seen c.self.inside.inner) _ _ _ _
    (c.count_fault.ensures.faults ∙ ap one_more c.begin.ensures.faults)
    (rw (← c.begin.ensures.faults) c.count_fault.ensures.later))

pub returns-in-Failed-clause-look : goal.returns-in-Failed-clause-look
returns-in-Failed-clause-look g c =
    rw (← c.self.view_is)
    (other_look _ _ _ _ _ _ _ c.read_file-found.ensures.look (search rules)
    (c.count_fault-in-Failed.ensures.faults ∙ ap one_more c.begin.ensures.faults)
    (rw (← c.begin.ensures.faults) c.count_fault-in-Failed.ensures.later))
