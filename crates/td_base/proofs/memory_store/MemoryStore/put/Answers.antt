use Rattle.td_base.proofs.StoredLemmas.{file_put}
use Rattle.td_base.proofs.memory_store.MemoryStore.put.Goals as goal

pub returns-clause-ok : goal.returns-clause-ok
returns-clause-ok c asked =
    rw (← c.self.view_is, ← c.into_vec.ensures)
    (file_put c.into_vec.result.items asked c.args.bytes c.self.inside.files.entries c.insert.new.self.entries
    c.in_ok-insert.ensures.updates.1 c.in_ok-insert.ensures.updates.3)
