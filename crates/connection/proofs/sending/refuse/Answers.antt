use Rattle.connection.proofs.TrafficLemmas.{sent_cut, sent_whole}
use Rattle.connection.proofs.sending.refuse.Goals as goal

pub returns-in-Whole : goal.returns-in-Whole
returns-in-Whole g c = sent_whole _ _ _ (rw c.fixed.ensures at c.in-Whole.ensures)

pub returns-in-Cut : goal.returns-in-Cut
returns-in-Cut g c = sent_cut _ _ _ (rw c.fixed.ensures at c.in-Cut.ensures)
