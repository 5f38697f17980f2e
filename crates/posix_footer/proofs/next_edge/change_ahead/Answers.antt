use Rattle.std.proofs.Common.{◌≡◌, sym, subst, Option}
use Rattle.std.specs.Option.{option_map, IfSome}
use Rattle.posix_footer.specs.declared.next_edge.Change.{Change}
use Rattle.posix_footer.specs.declared.rule_types.DstRule.{DstRule}
use Rattle.posix_footer.specs.NextOnset.{IsNext}
use Rattle.posix_footer.specs.StateAt.{state_by}
use Rattle.posix_footer.proofs.next_edge.change_ahead.Goals as goal

pub returns-in-Some-clause-next : goal.returns-in-Some-clause-next
returns-in-Some-clause-next c =
    let P : Option DstRule → Type 0 =
    λ rule. IsNext rule c.args.footer.now.std.offset c.args.ahead.now.after.seconds (option_map (λ (x : Change). x.at) c.change_by_rule.result) in
    subst P (sym c.in-Some.is) c.change_by_rule.ensures.next

pub returns-in-Some-clause-state : goal.returns-in-Some-clause-state
returns-in-Some-clause-state c =
    let P : Option DstRule → Type 0 =
    λ rule. IfSome c.change_by_rule.result (λ (x : Change). x.state ≡ state_by c.args.footer.now.std rule x.at.seconds) in
    subst P (sym c.in-Some.is) c.change_by_rule.ensures.state
