use Rattle.std.proofs.Common.{ap, ◌∙◌, map, nat_lt}
use Rattle.change_index.specs.Orders.{rising_by_number}
use Rattle.change_index.specs.declared.placed.Placed.{Placed}
use Rattle.change_index.proofs.Restoring.{positions_back}
use Rattle.change_index.proofs.kept.ChangeIndex.positions_after.Goals as goal

pub returns : goal.returns
returns c =
    c.in_ok-positions.ensures ∙ ap (rising_by_number (λ place. place)) (c.in_ok-places.ensures ∙ ap (map (λ (p : Placed). p.at)) c.after.ensures.above)
    ∙ positions_back (λ change. nat_lt c.args.n change) c.args.self.now
