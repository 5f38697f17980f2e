use Rattle.tzif_reader.proofs.Places.{lists_there}
use Rattle.tzif_reader.proofs.zone_lists.lists_in.Goals as goal

pub returns : goal.returns
returns c =
    lists_there c.args.file.now c.args.rest.now _ _ _ _ _ c.requires c.piece-times.ensures.value c.piece-numbers.ensures.value
    c.piece-numbers.ensures.len c.as_slice.ensures c.as_slice-2.ensures c.as_slice-3.ensures
