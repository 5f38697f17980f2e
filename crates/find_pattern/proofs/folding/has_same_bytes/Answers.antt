use Rattle.std.proofs.Common.{rules, tests, ◌∙◌}
use Rattle.std.proofs.lemmas.Iterator.{YieldsList-from_slice, YieldsList-from_zip}
use Rattle.std.proofs.lemmas.Iterator.Search.{all_from_yields_List}
use Rattle.find_pattern.proofs.SameLemmas.{folds_alike, same_pairs}
use Rattle.find_pattern.proofs.folding.has_same_bytes.Goals as goal

pub returns : goal.returns
returns c =
    all_from_yields_List folds_alike c.all.new.self _ c.all.result c.all.ensures.ran
    (YieldsList-from_zip (YieldsList-from_slice c.args.text.now cc) (YieldsList-from_slice c.args.other.now cc))
    (λ x b q k. search (rules, tests))
    ∙ same_pairs c.args.text.now c.args.other.now c.requires
