use Rattle.std.proofs.Common.{rules, tests}
use Rattle.std.proofs.lemmas.Iterator.{YieldsList-from_slice}
use Rattle.std.proofs.lemmas.Iterator.Search.{any_from_yields_List}
use Rattle.find_pattern.specs.Matching.{matches}
use Rattle.actions.proofs.finding.has_match.Goals as goal

pub returns : goal.returns
returns c =
    any_from_yields_List (matches c.args.pattern.now) _ _ c.any.result c.any.ensures.ran (YieldsList-from_slice c.args.aliases.now cc)
    (λ x b q k. search (rules, tests))
