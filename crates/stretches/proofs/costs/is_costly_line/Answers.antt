use Rattle.std.proofs.Common.{◌≡◌, ◌∷◌, [], List, sym, ap, ◌∙◌}
use Rattle.std.specs.Prelude.{Some, option_copied, if◌then◌else◌, false}
use Rattle.td_base.specs.Texts.{pieces_left}
use Rattle.stretches.specs.Costs.{is_costly_rest, is_costly_words}
use Rattle.stretches.proofs.costs.is_costly_line.Goals as goal

pub returns-then-has : goal.returns-then-has
returns-then-has c =
    sym (ap is_costly_words c.cut.ensures.cut ∙ ap (λ b. if b then false else is_costly_rest (pieces_left 32 (option_copied c.cut.result.1))) (sym c.has.ensures ∙ c.if-has.true))

pub returns-in-Some : goal.returns-in-Some
returns-in-Some c =
    c.is_costly_target.ensures
    ∙ sym (ap is_costly_words (c.cut.ensures.cut ∙ ap (λ o. c.cut.result.0.now ∷ pieces_left 32 (option_copied o)) c.in-Some.is)
    ∙ ap (λ b. if b then false else is_costly_rest (pieces_left 32 (option_copied (Some c.in-Some.rest)))) (sym c.has.ensures ∙ c.if-has.false)
    ∙ ap is_costly_rest c.cut-in-Some.ensures.cut)

pub returns-in-None : goal.returns-in-None
returns-in-None c =
    sym (ap is_costly_words (c.cut.ensures.cut ∙ ap (λ o. c.cut.result.0.now ∷ pieces_left 32 (option_copied o)) c.in-None.is)
    ∙ ap (λ b. if b then false else is_costly_rest []) (sym c.has.ensures ∙ c.if-has.false))
