use Rattle.sync_core.proofs.mirror_files.MirrorFiles.new.Goals as goal

pub invariant_of-result : goal.invariant_of-result
invariant_of-result c = rw c.iter.ensures.rest c.iter.ensures.found
