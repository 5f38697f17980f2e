use Rattle.tzif_reader.proofs.Places.{framed}
use Rattle.tzif_reader.proofs.zone_lists.rest_of.Goals as goal

pub unreachable-requires : goal.unreachable-requires
unreachable-requires c = framed c.args.file.now _ c.requires.no_fault (rw c.in-Err.is at c.frame_of.ensures.fault)
