use Rattle.std.proofs.Common.{◌≡◌, ℕ, List, sym, ap, ◌∙◌}
use Rattle.change_index.specs.Keeping.{kept_of, numbers_of, placed_from}
use Rattle.change_index.specs.Orders.{rising_by_number}
use Rattle.change_index.specs.declared.placed.Placed.{Placed}
use Rattle.change_index.proofs.Restoring.{numbers_back}
use Rattle.change_index.proofs.making.index.Goals as goal

-- what is kept of the numbers
kept_is : (kept placed : List Placed) (ns : List ℕ) → kept ≡ rising_by_number (λ (p : Placed). p.change) placed → placed ≡ placed_from 0 ns → kept ≡ kept_of ns
unfolding kept_of
kept_is kept placed ns risen all = risen ∙ ap (rising_by_number (λ (p : Placed). p.change)) all

pub invariant_of-result : goal.invariant_of-result
invariant_of-result c =
    let is = kept_is _ _ c.args.changes.now c.in_ok-kept.ensures c.in_ok-placed.ensures in
    is ∙ sym (ap kept_of (ap numbers_of is ∙ numbers_back c.args.changes.now))

pub returns : goal.returns
returns c = ap numbers_of (kept_is _ _ c.args.changes.now c.in_ok-kept.ensures c.in_ok-placed.ensures) ∙ numbers_back c.args.changes.now
