use Rattle.std.proofs.Common.{rules, ◌≡◌, ◌∙◌}
use Rattle.std.proofs.lemmas.Cmp.{nat_list_cmp_total}
use Rattle.std.proofs.lemmas.Fn.{always_returns_same}
use Rattle.std.proofs.lemmas.List.Sorted.{ranks_by}
use Rattle.catalogue.proofs.Sorting.{earlier, sorted_is}
use Rattle.catalogue.proofs.order.rising.Goals as goal

pub returns : goal.returns
returns g c =
    let text = g.T.Ranked.text in
    let made : c.from.result ≡ c.sort_by.new.self.items = search rules in
    let ranks = ranks_by nat_list_cmp_total text in
    let computes = always_returns_same _ _ _ (λ a r f' called. search rules) in
    made ∙ sorted_is text c.args.items c.sort_by.new.self.items (c.in_ok-sort_by.ensures.sorted (earlier text) ranks computes)
    (rw c.into_vec-sorted.ensures at (c.in_ok-sort_by.ensures.stable (earlier text) ranks computes))
