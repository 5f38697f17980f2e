use Rattle.std.proofs.Common.{refl}
use Rattle.mirror.specs.declared.understood_type.Understood.TheVariants as understood
use Rattle.calendar_mirror.proofs.Judgements.{heard_judged, other_judged}
use Rattle.calendar_mirror.proofs.judging.judge.Goals as goal

pub returns-in-Hears : goal.returns-in-Hears
returns-in-Hears c =
    heard_judged c.args.ask.now c.args.answer.now c.in_ok-heard.field-0 c.in-Hears.heard c.judge_heard.result c.in_ok-heard.ensures c.in-Hears.is
    c.judge_heard.ensures

pub returns-in-Unreadable : goal.returns-in-Unreadable
returns-in-Unreadable c = other_judged _ _ _ (understood.Unreadable c.in-Unreadable.place) c.in_ok-heard.ensures c.in-Unreadable.is refl

pub returns-in-Refuses : goal.returns-in-Refuses
returns-in-Refuses c = other_judged _ _ _ (understood.Refuses c.in-Refuses.status) c.in_ok-heard.ensures c.in-Refuses.is refl
