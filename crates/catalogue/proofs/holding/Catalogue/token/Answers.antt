use Rattle.std.proofs.Common.{◌∙◌, ap, ◌-◌, arith, get_or}
use Rattle.catalogue.proofs.lemmas.DigitTexts.{token_plain}
use Rattle.catalogue.proofs.lemmas.Tokens.{token_at}
use Rattle.catalogue.proofs.holding.Catalogue.token.Goals as goal

pub returns-clause-token : goal.returns-clause-token
returns-clause-token g c = λ H s.
    c.copy.ensures ∙ token_at g.Z.ZoneData.bytes g.Z.ZoneData.sound c.args.self.now H s c.args.n _ (omega arith) (omega arith)
    (c.index-as_slice-n.is ∙ ap (λ ts. get_or ts (c.args.n - 1 - c.retired.result) c.index-as_slice-n.result) c.as_slice.ensures
    ∙ ap (λ k. get_or c.args.self.now.tokens (c.args.n - 1 - k) c.index-as_slice-n.result) c.retired.ensures)

pub returns-clause-plain : goal.returns-clause-plain
returns-clause-plain g c = λ H s. rw (returns-clause-token g c H s) (token_plain H c.args.n (omega arith))
