use Rattle.std.proofs.Common.{None}
use Rattle.vtimezone_reader.proofs.ZoneObserved.{zone_observed}
use Rattle.vtimezone_reader.proofs.laws.zone_is_told.Goals as goal

pub returns : goal.returns
returns c = λ file from a b sound meaning low range high.
    zone_observed c.keeps_onsets.ensures file from a b sound.carried meaning low range high
    (c.zone_parts_are_spellable.ensures file (record { from = from; until = None }) sound.no_fault sound.names sound.carried meaning tt).1.0
    (c.parts_mean.ensures file (record { from = from; until = None }) sound.no_fault sound.carried meaning tt)
