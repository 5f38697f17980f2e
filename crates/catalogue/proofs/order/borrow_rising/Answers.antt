use Rattle.std.proofs.Common.{rules}
use Rattle.std.proofs.lemmas.Cmp.{nat_list_cmp_total}
use Rattle.std.proofs.lemmas.Fn.{always_returns_same}
use Rattle.std.proofs.lemmas.List.Sorted.{ranks_by}
use Rattle.catalogue.proofs.Sorting.{borrowed_rising, earlier}
use Rattle.catalogue.proofs.order.borrow_rising.Goals as goal

pub returns : goal.returns
returns g c =
    borrowed_rising (λ x. x.now) g.T.Ranked.text c.in_ok-sorted.sorted.items c.sort_by.new.self.items _
    (c.in_ok-sort_by.ensures.sorted (earlier (λ x. g.T.Ranked.text x.now)) (ranks_by nat_list_cmp_total (λ x. g.T.Ranked.text x.now))
    (always_returns_same _ _ _ (λ a r f' called. search rules)))
    (c.in_ok-sort_by.ensures.stable (earlier (λ x. g.T.Ranked.text x.now)) (ranks_by nat_list_cmp_total (λ x. g.T.Ranked.text x.now))
    (always_returns_same _ _ _ (λ a r f' called. search rules)))
    c.in_ok-sorted.ensures
