use Rattle.std.proofs.Common.{sym, ◌∙◌}
use Rattle.lru.proofs.CallerLemmas.{Contains-promoted}
use Rattle.answer_cache.proofs.Pairs as pairs
use Rattle.answer_cache.proofs.tables.promote.Goals as goal

pub returns-in-Some-clause-found : goal.returns-in-Some-clause-found
returns-in-Some-clause-found c = rw c.in-Some.is (
  λ t. pairs.is_kept pairs.alike_keys pairs.keys_same pairs.keys_own _ _ (sym c.promote.ensures.value ∙ t),
  λ k. c.promote.ensures.value ∙ pairs.is_found pairs.alike_keys pairs.keys_same pairs.keys_own _ _ k.0 k.1,
)

pub returns-in-Some-clause-first : goal.returns-in-Some-clause-first
returns-in-Some-clause-first c = λ t.
    rw c.promote.ensures.entries
    (pairs.is_first pairs.alike_keys pairs.keys_same pairs.keys_own c.args.key.now c.in-Some.table.entries (sym c.promote.ensures.value ∙ t))

pub returns-in-Some-clause-pairs : goal.returns-in-Some-clause-pairs
returns-in-Some-clause-pairs c = λ key answer k.
    let p = rw c.promote.ensures.entries at k in
    rw c.in-Some.is (Contains-promoted (pairs.alike_keys c.args.key.now) c.in-Some.table.entries (key, answer) p)
