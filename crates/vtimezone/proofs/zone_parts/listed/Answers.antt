use Rattle.std.proofs.Common.{rules, ◌≡◌, arith, pos, ◌≤ℤ◌, ◌<ℤ◌, w32, FitsSigned, to_z-of_z}
use Rattle.jiff_core.proofs.SignedLemmas.{signed_arith}
use Rattle.vtimezone.specs.PartsOf.{year_begin, changes_end}
use Rattle.vtimezone.specs.Ranges.{end_in}
use Rattle.vtimezone.proofs.PartsMean.{end_after, end_most}
use Rattle.vtimezone.proofs.lemmas.ZoneRange.{begin_most}
use Rattle.vtimezone.proofs.zone_parts.listed.Goals as goal

pub change_parts-requires : goal.change_parts-requires
change_parts-requires c =
    let turn = year_begin c.rule_year-year.result in
    let b = end_in c.args.range in
    let after : c.args.range.from.seconds <ℤ changes_end turn b = end_after turn c.args.range.from.seconds b c.rule_year-year.ensures.after c.requires.until in
    let most : changes_end turn b ≤ℤ turn = end_most turn b in
    let meant : turn ≤ℤ pos 253370764800 = begin_most c.rule_year-year.result c.rule_year-year.ensures.bound.0 c.rule_year-year.ensures.bound.1 in
    let fits : FitsSigned w32 c.rule_year-year.result = search rules in
    let is : c.changes_end.result.seconds ≡ changes_end turn b = simp (to_z-of_z fits) at c.changes_end.ensures in
    let last : c.changes_end.result.seconds ≤ℤ pos 253370764800 = omega (arith, signed_arith, is, most, meant) in
    (c.requires.from.0, omega (arith, signed_arith, is, after), last)
