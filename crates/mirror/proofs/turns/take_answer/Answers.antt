use Rattle.std.proofs.Common.{refl, ap, ◌∙◌, subst}
use Rattle.sync_core.specs.Steps.{IsAnswerTo}
use Rattle.mirror.specs.Turns.{taken_by}
use Rattle.mirror.proofs.lemmas.Meanings.{answers, meant}
use Rattle.mirror.proofs.turns.take_answer.Goals as goal

pub take-requires : goal.take-requires
take-requires c =
    subst (λ a. IsAnswerTo a c.in-Hears.heard) c.requires
    (answers c.args.ask.now c.args.answer c.in-Hears.heard (meant _ _ _ _ _ c.in_ok-heard.ensures c.as_slice.ensures c.in-Hears.is))

pub returns-in_ok-settled-in-Hears : goal.returns-in_ok-settled-in-Hears
returns-in_ok-settled-in-Hears c = (
  c.in-Hears.heard,
  meant _ _ _ _ _ c.in_ok-heard.ensures c.as_slice.ensures c.in-Hears.is,
  c.in_ok-settled-in-Hears.ensures.state,
  c.taken_by.ensures ∙ ap (taken_by c.args.ask.now) c.in_ok-settled-in-Hears.ensures.settled,
)

pub returns-in-Unreadable : goal.returns-in-Unreadable
returns-in-Unreadable c = (meant _ _ _ _ _ c.in_ok-heard.ensures c.as_slice.ensures c.in-Unreadable.is, refl, refl, refl)

pub returns-in-Refuses : goal.returns-in-Refuses
returns-in-Refuses c = (meant _ _ _ _ _ c.in_ok-heard.ensures c.as_slice.ensures c.in-Refuses.is, refl, refl)
