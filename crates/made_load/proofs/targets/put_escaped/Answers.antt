use Rattle.std.proofs.Common.{◌++◌, sym, ap, ◌∙◌, append-nil}
use Rattle.made_load.proofs.targets.put_escaped.Goals as goal

pub returns : goal.returns
returns c =
    sym (append-nil c.loop-piece.out) ∙ ap (λ l. c.loop-piece.out ++ l) (sym c.in-None.ensures.steps) ∙ c.loop-piece.invariant
