use Rattle.change_index.proofs.Sorting.{sorted_is}
use Rattle.change_index.proofs.kept.rising.Goals as goal

pub returns : goal.returns
returns c = sorted_is (λ place. place) c.args.places.items c.sort.new.self.items c.in_ok-sort.ensures.sorted c.in_ok-sort.ensures.stable
