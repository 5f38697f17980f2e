use Rattle.std.proofs.Common.{◌+◌, min, length, sym, ◌∙◌}
use Rattle.zone_meaning.proofs.Walking.{begun_is}
use Rattle.zone_meaning.proofs.walk.Walk.state_from.Goals as goal

pub state_when-requires-clause-begun_is : goal.state_when-requires-clause-begun_is
state_when-requires-clause-begun_is c =
    let z = c.args.self.now.lists in
    c.requires.begun ∙ sym (begun_is z.moments c.args.stop.at.seconds (min (c.args.self.now.begun + 1) (length z.moments)) c.requires.sound.types.rising
    c.requires.stop.turn.begun)
