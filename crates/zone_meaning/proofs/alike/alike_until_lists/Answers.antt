use Rattle.zone_meaning.proofs.AlikeBefore.{alike_until}
use Rattle.zone_meaning.proofs.alike.alike_until_lists.Goals as goal

pub returns : goal.returns
returns c =
    alike_until c.args.one.now c.args.two.now c.alike_transitions-count.result c.moment.result c.requires.types c.requires.other_types
    c.alike_transitions-count.ensures c.if-count-eq0.false c.moment.ensures
