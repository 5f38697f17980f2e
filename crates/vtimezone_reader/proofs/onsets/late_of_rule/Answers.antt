use Rattle.vtimezone_reader.proofs.RuleOnsets.{late_by}
use Rattle.vtimezone_reader.proofs.onsets.late_of_rule.Goals as goal

pub returns : goal.returns
returns c =
    late_by c.args.part.now c.args.rule.now c.last_by-last.result.seconds c.args.t.seconds c.late_from.result c.last_by-last.ensures.by c.late_from.ensures
