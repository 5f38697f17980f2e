use Rattle.std.proofs.Common.{◌+◌, ◌<◌, rules}
use Rattle.made_load.proofs.ZoneLemmas.{moved_on}
use Rattle.made_load.proofs.zones.moves.Goals as goal

pub loop-place-preserved : goal.loop-place-preserved
loop-place-preserved c =
    let less : c.loop-place.place < c.args.release + 1 = search rules in
    record {
      counted = moved_on c.args.zone c.loop-place.place (c.args.release + 1) c.loop-place.moves c.moves_in-moves.result _ less c.moves_in-moves.ensures
          c.loop-place.invariant.counted;
      few = search rules;
    }
