use Rattle.std.proofs.Common.{sym, ap, ◌∙◌, subst, List, ℕ}
use Rattle.console.specs.Lines.{HasWishText, line_of}
use Rattle.console.proofs.PlaceLemmas.{at_feed, no_feed}
use Rattle.console.proofs.StepLemmas.{err_text}
use Rattle.console.proofs.lines.Lines.step.Goals as goal

pub returns-in_default-clause-steps : goal.returns-in_default-clause-steps
returns-in_default-clause-steps c = (no_feed c.args.self.now (sym c.first_feed.ensures.place ∙ c.in_default.is), c.keep_first.ensures)

pub returns-in_err-line-clause-memory : goal.returns-in_err-line-clause-memory
returns-in_err-line-clause-memory c =
    let place = at_feed c.args.self.now c.in-Some.len (sym c.first_feed.ensures.place ∙ c.in-Some.is) in
    err_text c.args.self.now c.from_residual.result (place.0, subst (λ (l : List ℕ). HasWishText (line_of l)) place.1 c.in_err-line.ensures.memory)

pub returns-clause-steps : goal.returns-clause-steps
returns-clause-steps c =
    let place = at_feed c.args.self.now c.in-Some.len (sym c.first_feed.ensures.place ∙ c.in-Some.is) in
    (place.0, c.in_ok-line.ensures.found ∙ ap line_of place.1, c.take_line.ensures ∙ place.2)
