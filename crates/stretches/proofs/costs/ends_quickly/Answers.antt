use Rattle.std.proofs.Common.{◌≡◌, ◌∷◌, [], List, sym, ap, ◌∙◌}
use Rattle.std.specs.Prelude.{option_copied, if◌then◌else◌, false}
use Rattle.td_base.specs.Texts.{pieces_left}
use Rattle.stretches.specs.Costs.{is_quick_pair}
use Rattle.stretches.proofs.CostLemmas.{three}
use Rattle.stretches.proofs.costs.ends_quickly.Goals as goal

pub returns-in-Some : goal.returns-in-Some
returns-in-Some c =
    sym (three c.args.start.now _ c.args.rest.now _ (c.cut.ensures.cut ∙ ap (λ o. c.cut.result.0.now ∷ pieces_left 38 (option_copied o)) c.in-Some.is))

pub returns-in-None : goal.returns-in-None
returns-in-None c =
    c.is_quick_range.ensures
    ∙ sym (ap (λ l. is_quick_pair (c.args.start.now ∷ l)) (c.cut.ensures.cut ∙ ap (λ o. c.cut.result.0.now ∷ pieces_left 38 (option_copied o)) c.in-None.is))
