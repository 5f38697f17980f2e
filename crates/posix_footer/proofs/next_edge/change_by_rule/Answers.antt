use Rattle.std.proofs.Common.{◌≡◌, sym, subst, ap, ◌∙◌, ℤ, Option, None, Some}
use Rattle.std.specs.Prelude.{Bool, if◌then◌else◌}
use Rattle.std.specs.Option.{option_map}
use Rattle.td_civil.specs.declared.moment_type.Moment.{Moment}
use Rattle.posix_footer.specs.declared.ahead.YearOnset.{YearOnset}
use Rattle.posix_footer.specs.declared.rule_types.Edge.{Edge}
use Rattle.posix_footer.specs.declared.rule_types.Edge.TheVariants as edge
use Rattle.posix_footer.specs.declared.rule_types.DstRule.{DstRule}
use Rattle.posix_footer.specs.Lawful.{IsLawfulRule}
use Rattle.posix_footer.specs.NextOnset.{IsFirstYearIfAny, IsNext, IsNextIfAny, earlier}
use Rattle.posix_footer.proofs.EdgeStates.{started_is}
use Rattle.posix_footer.proofs.lemmas.NextLemmas.{first_of_edges, first_year_next}
use Rattle.posix_footer.proofs.next_edge.change_by_rule.Goals as goal

-- the first onset of an edge, from the onsets ahead
edge_is : (rule : DstRule) (std t : ℤ) (at : Edge) (o : Option YearOnset) (next : Option Moment) → IsLawfulRule std rule
    → IsFirstYearIfAny rule std at t o → next ≡ option_map (λ (x : YearOnset). x.at) o → IsNextIfAny rule std at t next
edge_is rule std t at o next lawful is same =
    let P : Option Moment → Type 0 = λ m. IsNextIfAny rule std at t m in
    subst P (sym same) (first_year_next rule std t at o lawful is)

-- what both edges come to
first_is : (rule : DstRule) (std t : ℤ) (start end next : Option Moment) → IsNextIfAny rule std edge.Start t start → IsNextIfAny rule std edge.End t end
    → next ≡ earlier start end → IsNext (Some rule) std t next
first_is rule std t start end next starts ends is =
    let P : Option Moment → Type 0 = λ m. IsNext (Some rule) std t m in
    subst P (sym is) (first_of_edges rule std t start end starts ends)

pub returns-in-None-clause-next : goal.returns-in-None-clause-next
returns-in-None-clause-next c =
    let rule = c.args.rule.now in
    let std = c.args.std.now.offset in
    let t = c.args.ahead.now.after.seconds in
    let starts = edge_is rule std t edge.Start c.args.ahead.now.start c.onset_of-start.result c.requires.lawful c.requires.ahead.start c.onset_of-start.ensures in
    let ends = edge_is rule std t edge.End c.args.ahead.now.end c.onset_of-end.result c.requires.lawful c.requires.ahead.end c.onset_of-end.ensures in
    first_is rule std t c.onset_of-start.result c.onset_of-end.result None starts ends (sym c.in-None.is ∙ c.earlier.ensures)

pub returns-in-Some-clause-next : goal.returns-in-Some-clause-next
returns-in-Some-clause-next c =
    let rule = c.args.rule.now in
    let std = c.args.std.now.offset in
    let t = c.args.ahead.now.after.seconds in
    let starts = edge_is rule std t edge.Start c.args.ahead.now.start c.onset_of-start.result c.requires.lawful c.requires.ahead.start c.onset_of-start.ensures in
    let ends = edge_is rule std t edge.End c.args.ahead.now.end c.onset_of-end.result c.requires.lawful c.requires.ahead.end c.onset_of-end.ensures in
    first_is rule std t c.onset_of-start.result c.onset_of-end.result (Some c.in-Some.at) starts ends (sym c.in-Some.is ∙ c.earlier.ensures)

pub returns-in-Some-clause-state : goal.returns-in-Some-clause-state
returns-in-Some-clause-state c =
    let rule = c.args.rule.now in
    let std = c.args.std.now.offset in
    let t = c.args.ahead.now.after.seconds in
    let starts = edge_is rule std t edge.Start c.args.ahead.now.start c.onset_of-start.result c.requires.lawful c.requires.ahead.start c.onset_of-start.ensures in
    let ends = edge_is rule std t edge.End c.args.ahead.now.end c.onset_of-end.result c.requires.lawful c.requires.ahead.end c.onset_of-end.ensures in
    c.state_from.ensures
    ∙ ap (λ (b : Bool). if b then rule.dst else c.args.std.now)
    (started_is rule std t c.onset_of-start.result c.onset_of-end.result c.in-Some.at starts ends (sym c.earlier.ensures ∙ c.in-Some.is))
