use Rattle.std.proofs.Common.{◌≡◌, ◌∷◌, [], List, sym, ap, ◌∙◌}
use Rattle.std.specs.Prelude.{option_copied, if◌then◌else◌, false}
use Rattle.td_base.specs.Texts.{pieces_left}
use Rattle.stretches.proofs.CostLemmas.{count_after, count_none}
use Rattle.stretches.proofs.costs.after.Goals as goal

pub returns-in-Some-clause-some : goal.returns-in-Some-clause-some
returns-in-Some-clause-some c =
    count_after c.args.byte c.args.text.now _ _ (c.cut.ensures.cut ∙ ap (λ o. c.cut.result.0.now ∷ pieces_left c.args.byte (option_copied o)) c.in-Some.is)

pub returns-in-None-clause-none : goal.returns-in-None-clause-none
returns-in-None-clause-none c e =
    count_none c.args.byte c.args.text.now _ (c.cut.ensures.cut ∙ ap (λ o. c.cut.result.0.now ∷ pieces_left c.args.byte (option_copied o)) c.in-None.is)
