use Rattle.std.proofs.Common.{◌++◌, sym, ap, ◌∙◌, append-nil}
use Rattle.http_client.proofs.Escapes.{text_escaped}
use Rattle.http_client.proofs.requesting.put_escaped.Goals as goal

pub returns : goal.returns
returns c =
    sym (append-nil c.loop-piece.out) ∙ ap (λ l. c.loop-piece.out ++ l) (sym c.in-None.ensures.steps)
    ∙ c.loop-piece.invariant ∙ ap (λ l. c.args.out.now ++ l) (text_escaped c.args.text.now)
