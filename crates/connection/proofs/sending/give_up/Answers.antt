use Rattle.connection.proofs.TrafficLemmas.{gives_up}
use Rattle.connection.proofs.sending.give_up.Goals as goal

pub returns : goal.returns
returns g c = gives_up _ _ c.send_whole.result (rw c.fixed.ensures at c.send_whole.ensures)
