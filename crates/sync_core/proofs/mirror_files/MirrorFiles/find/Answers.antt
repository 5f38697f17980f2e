use Rattle.sync_core.proofs.mirror_files.MirrorFiles.find.Goals as goal

pub invariant_of-self : goal.invariant_of-self
invariant_of-self c = rw c.iter-self-inside.ensures.rest c.iter-self-inside.ensures.found
