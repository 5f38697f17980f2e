use Rattle.std.proofs.Common.{ℤ, Option, sym, subst, to_z, of_z, to_z-of_z, w32, FitsSigned, ◌<ℤ◌, ◌≤ℤ◌}
use Rattle.std.specs.Option.{IfSome}
use Rattle.posix_footer.specs.declared.ahead.YearOnset.{YearOnset}
use Rattle.posix_footer.specs.declared.rule_types.Edge.{Edge}
use Rattle.posix_footer.specs.declared.rule_types.Edge.TheVariants as edge
use Rattle.posix_footer.specs.declared.rule_types.DstRule.{DstRule}
use Rattle.posix_footer.specs.NextOnset.{IsFirstYearIfAny, IsNextOnset}
use Rattle.posix_footer.proofs.lemmas.NextLemmas.{nearest}
use Rattle.posix_footer.proofs.ahead.ahead_after_by.Goals as goal

-- what one edge comes to, where its clause speaks of the offset that was passed
edge_is : (rule : DstRule) (std t m : ℤ) (at : Edge) (first next : Option YearOnset) → FitsSigned w32 std
    → ((s : ℤ) → IsFirstYearIfAny rule (to_z w32 (of_z w32 std)) at s first → s <ℤ m → IfSome first (λ (o : YearOnset). m ≤ℤ o.at.seconds)
    → IsFirstYearIfAny rule (to_z w32 (of_z w32 std)) at m next)
    → IsFirstYearIfAny rule std at t first → IsNextOnset rule std t m → IsFirstYearIfAny rule std at m next
edge_is rule std t m at first next fits clause is come =
    let P : ℤ → Type 0 = λ k. IsFirstYearIfAny rule k at t first in
    let Q : ℤ → Type 0 = λ k. IsFirstYearIfAny rule k at m next in
    let same = to_z-of_z fits in
    subst Q same (clause t (subst P (sym same) is) come.after (nearest rule std t m at first is come))

pub returns-clause-ahead : goal.returns-clause-ahead
returns-clause-ahead c =
    let rule = c.args.rule.now in
    let std = c.args.std in
    let t = c.args.ahead.now.after.seconds in
    let m = c.args.next.seconds in
    record {
      start = edge_is rule std t m edge.Start c.args.ahead.now.start c.edge_after.result c.ranges.std c.edge_after.ensures c.requires.ahead.start c.requires.next;
      end = edge_is rule std t m edge.End c.args.ahead.now.end c.edge_after-2.result c.ranges.std c.edge_after-2.ensures c.requires.ahead.end c.requires.next;
    }
