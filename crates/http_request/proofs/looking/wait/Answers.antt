use Rattle.std.proofs.Common.{sym, ◌∙◌}
use Rattle.http_request.proofs.LookLemmas.{waits_full, waits_more}
use Rattle.http_request.proofs.looking.wait.Goals as goal

pub returns-then-full : goal.returns-then-full
returns-then-full c =
    rw c.as_u16.ensures.value
    (waits_full c.args.bytes.now c.args.scan c.requires.0 c.requires.1 (sym c.is_full-full.ensures ∙ c.if-full.true))

pub returns-else-full : goal.returns-else-full
returns-else-full c =
    (waits_more c.args.bytes.now c.args.scan c.requires.0 c.requires.1 (sym c.is_full-full.ensures ∙ c.if-full.false), c.requires)
