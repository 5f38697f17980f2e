use Rattle.std.proofs.Common.{take}
use Rattle.sync_world.specs.Calendars.{IsCalendarHeardOver}
use Rattle.calendar_world.proofs.Sound.{judged_is}
use Rattle.calendar_world.proofs.Worlds.{answered_over}
use Rattle.calendar_world.proofs.laws.answers_are_sound.Goals as goal

pub returns : goal.returns
returns c = λ H steps w v n sent h answer j history some leads is.
    let over = answered_over IsCalendarHeardOver H steps w history some leads v n sent h is in
    judged_is c.calendars_fit.ensures c.zone_is_read.ensures c.zone_is_told.ensures c.calendars_are_heard.ensures c.one_meaning.ensures
    (take n w.history) sent.ask h answer j over.history over.some is.is_heard
