use Rattle.std.proofs.Common.{rules}
use Rattle.subscribers.specs.Views.{emptied_beside}
use Rattle.subscribers.proofs.lemmas.Numbered.{written_changed}
use Rattle.subscribers.proofs.subscriber_list.Subscribers.clear.Goals as goal

pub returns : goal.returns
returns c =
    rw (← c.self.view_is)
    (written_changed emptied_beside c.self.inside.list.items c.args.number c.index_mut.result.now c.clear.new.self c.requires.some
    (rw c.self.view_is c.requires.there) (search rules) c.clear.ensures)
