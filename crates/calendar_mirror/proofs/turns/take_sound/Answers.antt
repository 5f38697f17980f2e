use Rattle.std.proofs.Common.{refl, ap, ◌∙◌, subst}
use Rattle.sync_core.specs.Steps.{IsAnswerTo}
use Rattle.mirror.specs.Turns.{taken_by}
use Rattle.mirror.proofs.lemmas.Meanings.{told_answers}
use Rattle.calendar_mirror.specs.Judging.{MeansSound}
use Rattle.calendar_mirror.proofs.Judgements.{hears_in_kind}
use Rattle.calendar_mirror.proofs.turns.take_sound.Goals as goal

pub take-requires : goal.take-requires
take-requires c =
    let heard_so = subst (MeansSound c.args.ask.now c.args.answer) c.in-Hears.is c.requires.meant in
    subst (λ a. IsAnswerTo a c.in-Hears.heard) c.requires.asked
    (told_answers c.args.ask.now c.in-Hears.heard (hears_in_kind c.args.ask.now c.args.answer c.in-Hears.heard heard_so))

pub returns-in_ok-settled-in-Hears : goal.returns-in_ok-settled-in-Hears
returns-in_ok-settled-in-Hears c = (
  c.in-Hears.heard,
  subst (MeansSound c.args.ask.now c.args.answer) c.in-Hears.is c.requires.meant,
  c.in_ok-settled-in-Hears.ensures.state,
  c.taken_by.ensures ∙ ap (taken_by c.args.ask.now) c.in_ok-settled-in-Hears.ensures.settled,
)

pub returns-in-Unreadable : goal.returns-in-Unreadable
returns-in-Unreadable c = (subst (MeansSound c.args.ask.now c.args.answer) c.in-Unreadable.is c.requires.meant, refl, refl, refl)

pub returns-in-Refuses : goal.returns-in-Refuses
returns-in-Refuses c = (subst (MeansSound c.args.ask.now c.args.answer) c.in-Refuses.is c.requires.meant, refl, refl)
