use Rattle.std.proofs.Common.{rules, tests, ◌==◌}
use Rattle.std.proofs.lemmas.Iterator.Splits.{YieldsList-from_slice_split}
use Rattle.std.proofs.lemmas.Iterator.Search.{any_from_yields_List}
use Rattle.negotiate.specs.Marks.{comma}
use Rattle.td_base.specs.Texts.{pieces}
use Rattle.negotiate.specs.Tags.{is_tag}
use Rattle.negotiate.proofs.tags.is_listed.Goals as goal

pub returns : goal.returns
unfolding pieces
returns c =
    any_from_yields_List (is_tag c.args.tag.now) _ _ c.any.result c.any.ensures.ran
    (YieldsList-from_slice_split _ (λ b. b == comma) c.args.field.now (cc) (cc) (cc) (λ x r q k. search (rules, tests)))
    (λ x b q k. search (rules, tests))
