use Rattle.std.proofs.Common.{length-take}
use Rattle.catalogue.proofs.digest.first_half.Goals as goal

pub slice_bounds-prefix-end : goal.slice_bounds-prefix-end
slice_bounds-prefix-end c = rw (length-take, c.requires)
