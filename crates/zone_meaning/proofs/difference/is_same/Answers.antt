use Rattle.zone_meaning.proofs.Differing.{same_observance}
use Rattle.zone_meaning.proofs.difference.is_same.Goals as goal

pub returns : goal.returns
returns c = same_observance c.args.one.now c.args.two.now c.eq.result c.eq.ensures
