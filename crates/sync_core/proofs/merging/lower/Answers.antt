use Rattle.std.proofs.Common.{sym, arith}
use Rattle.sync_core.proofs.Merges.{takes_known, takes_both, takes_listed}
use Rattle.sync_core.proofs.merging.lower.Goals as goal

pub returns-in-Less-clause-next : goal.returns-in-Less-clause-next
returns-in-Less-clause-next c =
    let fits = c.args.known.now.ok.0 in
    takes_known _ _ _ _ c.requires.listed (sym c.in-Less.ensures) (λ d h. c.pop_front.ensures.value d (omega (arith, h, fits))) c.pop_front.ensures.rest

pub returns-in-Equal-clause-next : goal.returns-in-Equal-clause-next
returns-in-Equal-clause-next c =
    let fits = c.args.listed.now.ok.0 in
    takes_both _ _ _ _ _ c.requires.listed (sym c.in-Equal.ensures) (λ d h. c.pop_front-in-Equal-2.ensures.value d (omega (arith, h, fits)))
    c.pop_front-in-Equal.ensures.rest c.pop_front-in-Equal-2.ensures.rest

pub returns-in-Greater-clause-next : goal.returns-in-Greater-clause-next
returns-in-Greater-clause-next c =
    let fits = c.args.listed.now.ok.0 in
    takes_listed _ _ _ _ c.requires.listed (sym c.in-Greater.ensures) (λ d h. c.pop_front-in-Greater.ensures.value d (omega (arith, h, fits)))
    (λ some. let h = c.pop_front-in-Greater.ensures.variant.0 some in omega (arith, h, fits)) c.pop_front-in-Greater.ensures.rest
