-- What a walk knows of the moment at which the state may change next.
use Rattle.std.specs.Prelude.{◌≡◌, Option}
use Rattle.std.specs.Option.{IfSome}
use Rattle.tzif_reader.specs.declared.zone_file.ZoneFile.{ZoneFile}
use Rattle.posix_footer.specs.declared.rule_types.Footer.{Footer}
use Rattle.zone_meaning.specs.State.{state_at}
use Rattle.zone_meaning.specs.Walks.{IsKnownAhead}
use Rattle.zone_meaning.specs.declared.walk.StateTurn.{StateTurn}

-- the state that is known with a turn, if one is, is the zone's then
abbrev pub IsKnown : ZoneFile → Option Footer → StateTurn → Type 0
IsKnown lists footer turn =
    IfSome turn.state (λ state. state ≡ state_at lists footer turn.at.seconds)

-- and so are the onsets ahead of it
abbrev pub KnowsAhead : Option Footer → StateTurn → Type 0
KnowsAhead footer turn = IsKnownAhead footer turn.at.seconds turn.ahead
