use Rattle.std.proofs.Common.{◌≡◌, ap}
use Rattle.zone_meaning.specs.State.{footer_meant}
use Rattle.zone_meaning.proofs.Decided.{decided_after, decided_next}
use Rattle.zone_meaning.proofs.deciding.decided_by_lists.Goals as goal

pub returns-then-has_same_footer-clause-decided : goal.returns-then-has_same_footer-clause-decided
returns-then-has_same_footer-clause-decided c =
    let last = c.last_of_both-last in
    let one = footer_meant c.args.one.now.footer in
    let two = footer_meant c.args.two.now.footer in
    let same : one ≡ two = ap footer_meant (c.has_same_footer.ensures c.if-has_same_footer.true) in
    decided_next c.args.one.now c.args.two.now one two last.result.seconds c.second_after.result.seconds c.requires.types c.requires.other_types
    last.ensures.one last.ensures.two last.ensures.meaning.0 same c.second_after.ensures.next

pub returns-else-has_same_footer-clause-decided : goal.returns-else-has_same_footer-clause-decided
returns-else-has_same_footer-clause-decided c =
    let last = c.last_of_both-last in
    decided_after c.args.one.now c.args.two.now (footer_meant c.args.one.now.footer) (footer_meant c.args.two.now.footer) last.result.seconds
    c.cycle_after.result.seconds c.requires.types c.requires.other_types c.requires.lawful c.requires.other_lawful last.ensures.one last.ensures.two
    last.ensures.meaning.0 c.cycle_after.ensures.end
