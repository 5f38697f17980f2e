use Rattle.zone_meaning.specs.State.{zone_state}
use Rattle.zone_meaning.proofs.AlikeBefore.{first_after}
use Rattle.zone_meaning.proofs.difference.difference_before.Goals as goal

pub returns : goal.returns
returns c =
    first_after (zone_state c.args.one.now) (zone_state c.args.two.now) c.start_before.result.seconds c.args.end.seconds c.difference_between.result
    c.start_before.ensures.range.0 c.start_before.ensures.alike c.difference_between.ensures
