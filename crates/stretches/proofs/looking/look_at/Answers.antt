use Rattle.std.proofs.Common.{sym, ◌∙◌, arith}
use Rattle.stretches.proofs.FrontLemmas.{fits_is, front_full, front_none, front_past, front_within}
use Rattle.stretches.proofs.looking.look_at.Goals as goal

pub returns-then-is_within : goal.returns-then-is_within
returns-then-is_within c =
    let bytes = c.args.bytes.now in
    let n = c.in-End.len in
    let e = c.in-End.ensures in
    let end = c.searches.ensures.end bytes n e.0 in
    (front_within bytes n end.2 (fits_is bytes n c.in-End.feeds e.1 ∙ (sym c.is_within.ensures ∙ c.if-is_within.true)), end.0, end.1)

pub returns-else-is_within : goal.returns-else-is_within
returns-else-is_within c =
    let bytes = c.args.bytes.now in
    let n = c.in-End.len in
    let e = c.in-End.ensures in
    let end = c.searches.ensures.end bytes n e.0 in
    let past = fits_is bytes n c.in-End.feeds e.1 ∙ (sym c.is_within.ensures ∙ c.if-is_within.false) in
    let full = c.searches.ensures.full bytes n e.2 past in
    (front_past bytes n end.2 past full, c.searches.ensures.some bytes full, omega arith)

pub returns-then-is_full : goal.returns-then-is_full
returns-then-is_full c =
    let bytes = c.args.bytes.now in
    let e = c.in-Open.ensures in
    let open' = c.searches.ensures.open bytes c.in-Open.scan e.0 e.1 in
    let full = open'.1 ∙ (sym c.is_full.ensures ∙ c.if-is_full.true) in
    (front_full bytes open'.0 full, c.searches.ensures.some bytes full, omega arith)

pub returns-else-is_full : goal.returns-else-is_full
returns-else-is_full c =
    let bytes = c.args.bytes.now in
    let e = c.in-Open.ensures in
    let open' = c.searches.ensures.open bytes c.in-Open.scan e.0 e.1 in
    (front_none bytes open'.0 (open'.1 ∙ (sym c.is_full.ensures ∙ c.if-is_full.false)), e.0)
