use Rattle.std.proofs.Common.{rules}
use Rattle.std.proofs.lemmas.Fn.{always_returns_same}
use Rattle.change_index.specs.declared.placed.Placed.{Placed}
use Rattle.change_index.proofs.Sorting.{sorted_is}
use Rattle.change_index.proofs.making.rising.Goals as goal

pub returns : goal.returns
returns c =
    let computes = always_returns_same _ _ _ (λ a r f' called. search rules) in
    sorted_is (λ (p : Placed). p.change) c.args.placed.items c.sort_by_key.new.self.items
    (c.in_ok-sort_by_key.ensures.sorted (λ (p : Placed). p.change) computes)
    (c.in_ok-sort_by_key.ensures.stable (λ (p : Placed). p.change) computes)
