use Rattle.zone_meaning.specs.State.{zone_state}
use Rattle.zone_meaning.proofs.Decided.{decided_first, same_files, zone_first}
use Rattle.zone_meaning.proofs.difference.first_difference.Goals as goal

pub returns-then-is_one_file-clause-first : goal.returns-then-is_one_file-clause-first
returns-then-is_one_file-clause-first c =
    zone_first c.args.one.now c.args.two.now _ (same_files c.args.one.now c.args.two.now (c.is_one_file.ensures.0 (c.if-is_one_file.true)))

pub returns-then-is_one_file-clause-least : goal.returns-then-is_one_file-clause-least
returns-then-is_one_file-clause-least c =
    same_files c.args.one.now c.args.two.now (c.is_one_file.ensures.0 (c.if-is_one_file.true))

pub returns-clause-first : goal.returns-clause-first
returns-clause-first c =
    zone_first c.args.one.now c.args.two.now c.difference_before.result
    (decided_first (zone_state c.args.one.now) (zone_state c.args.two.now) c.decided_by.result.seconds c.difference_before.result
    c.decided_by.ensures.range.2 c.decided_by.ensures.decided c.difference_before.ensures)

pub returns-clause-least : goal.returns-clause-least
returns-clause-least c =
    decided_first (zone_state c.args.one.now) (zone_state c.args.two.now) c.decided_by.result.seconds c.difference_before.result
    c.decided_by.ensures.range.2 c.decided_by.ensures.decided c.difference_before.ensures
