use Rattle.std.proofs.Common.{sym, ◌∙◌}
use Rattle.http_request.specs.Steps.{IsTaken}
use Rattle.http_request.proofs.LookLemmas.{ends_past, ends_within, ends_taken, on_err_anyway}
use Rattle.http_request.proofs.looking.read_window.Goals as goal

pub returns-then-not-within-clause-finds : goal.returns-then-not-within-clause-finds
returns-then-not-within-clause-finds c =
    rw c.as_u16-too_large.ensures.value
    (ends_past c.args.bytes.now c.args.len c.args.feeds c.requires.0 c.requires.1 (sym c.is_within-within.ensures ∙ c.if-not-within.true))

pub returns-in_err-step-clause-err : goal.returns-in_err-step-clause-err
returns-in_err-step-clause-err c =
    on_err_anyway c.from_residual.result (IsTaken c.args.bytes.now)
    (ends_taken c.args.bytes.now c.args.len c.args.feeds c.requires.0 c.requires.1
    (sym c.is_within-within.ensures ∙ c.if-not-within.false) c.in_err-step.ensures.err)

pub returns-clause-finds : goal.returns-clause-finds
returns-clause-finds c =
    ends_within c.args.bytes.now c.args.len c.args.feeds c.in_ok-step.step c.requires.0 c.requires.1
    (sym c.is_within-within.ensures ∙ c.if-not-within.false) c.in_ok-step.ensures.reads
