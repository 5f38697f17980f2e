use Rattle.subscribers.proofs.lemmas.Hearing.{hears_each_change_once}
use Rattle.subscribers.proofs.laws.hears_each_change_once.Goals as goal

pub returns : goal.returns
returns c = hears_each_change_once
