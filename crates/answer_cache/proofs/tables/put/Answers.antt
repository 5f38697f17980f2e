use Rattle.answer_cache.proofs.Pairs as pairs
use Rattle.answer_cache.proofs.tables.put.Goals as goal

pub returns-in-Some-clause-pairs : goal.returns-in-Some-clause-pairs
returns-in-Some-clause-pairs c = λ other given k.
    rw c.in-Some.is
    (pairs.put_adds pairs.alike_keys pairs.keys_same pairs.keys_own c.args.key c.put.result c.in-Some.table c.put.new.self c.args.answer
    c.put.ensures.entries c.put.ensures.err other given k)
