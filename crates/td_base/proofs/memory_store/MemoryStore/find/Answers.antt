use Rattle.td_base.proofs.StoredLemmas.{file_looked_up}
use Rattle.td_base.proofs.memory_store.MemoryStore.find.Goals as goal

pub returns-in-Some : goal.returns-in-Some
returns-in-Some c =
    rw (← c.self.view_is, ← file_looked_up c.args.path.now c.self.inside.files.entries, c.as_slice.ensures) c.in-Some.ensures.value

pub returns-in-None : goal.returns-in-None
returns-in-None c =
    rw (← c.self.view_is, ← file_looked_up c.args.path.now c.self.inside.files.entries) c.in-None.ensures.value
