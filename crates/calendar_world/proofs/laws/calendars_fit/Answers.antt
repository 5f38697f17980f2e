use Rattle.std.proofs.Common.{None}
use Rattle.calendar_world.proofs.ZoneSizes.{calendar_fits}
use Rattle.calendar_world.proofs.laws.calendars_fit.Goals as goal

pub returns : goal.returns
returns c = λ file from tzid alias_of sound meaning named also.
    let spelled = c.zone_parts_are_spellable.ensures file (record { from = from; until = None }) sound.no_fault sound.names sound.carried meaning tt in
    calendar_fits file from tzid alias_of sound meaning named also spelled.1.0
