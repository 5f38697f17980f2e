use Rattle.std.proofs.Common.{refl}
use Rattle.calendar_mirror.proofs.Judgements.{judged_as}
use Rattle.calendar_mirror.proofs.turns.take_answer.Goals as goal

pub take_sound-requires-clause-meant : goal.take_sound-requires-clause-meant
take_sound-requires-clause-meant c = judged_as _ _ _ _ _ c.in_ok-understood.ensures c.as_slice.ensures c.in-Sound.is

pub returns-in-BadCalendar : goal.returns-in-BadCalendar
returns-in-BadCalendar c = (judged_as _ _ _ _ _ c.in_ok-understood.ensures c.as_slice.ensures c.in-BadCalendar.is, refl, refl)

pub returns-in-WrongName : goal.returns-in-WrongName
returns-in-WrongName c = (judged_as _ _ _ _ _ c.in_ok-understood.ensures c.as_slice.ensures c.in-WrongName.is, refl, refl)
