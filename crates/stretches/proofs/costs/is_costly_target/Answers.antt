use Rattle.std.proofs.Common.{◌≡◌, ◌∷◌, [], List, sym, ap, ◌∙◌}
use Rattle.std.specs.Prelude.{option_copied, if◌then◌else◌, false}
use Rattle.td_base.specs.Texts.{pieces_left}
use Rattle.stretches.specs.Costs.{is_costly_parts, is_long}
use Rattle.stretches.proofs.costs.is_costly_target.Goals as goal

pub returns-then-is_quick_rest : goal.returns-then-is_quick_rest
returns-then-is_quick_rest c =
    sym (ap is_costly_parts (c.cut.ensures.cut ∙ ap (λ o. c.cut.result.0.now ∷ pieces_left 63 (option_copied o)) c.in-Some.is)
    ∙ ap (λ b. if b then false else is_long c.cut.result.0.now) (sym c.is_quick_rest.ensures ∙ c.if-is_quick_rest.true))

pub returns-else-is_quick_rest : goal.returns-else-is_quick_rest
returns-else-is_quick_rest c =
    c.is_long.ensures
    ∙ sym (ap is_costly_parts (c.cut.ensures.cut ∙ ap (λ o. c.cut.result.0.now ∷ pieces_left 63 (option_copied o)) c.in-Some.is)
    ∙ ap (λ b. if b then false else is_long c.cut.result.0.now) (sym c.is_quick_rest.ensures ∙ c.if-is_quick_rest.false))

pub returns-in-None : goal.returns-in-None
returns-in-None c =
    c.is_long-in-None.ensures
    ∙ sym (ap is_costly_parts (c.cut.ensures.cut ∙ ap (λ o. c.cut.result.0.now ∷ pieces_left 63 (option_copied o)) c.in-None.is))
