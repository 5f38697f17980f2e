use Rattle.std.proofs.Common.{rules, tests, length, ap, ◌∙◌}
use Rattle.std.specs.Option.{unwrap_or}
use Rattle.std.proofs.lemmas.Iterator.{YieldsList-from_slice}
use Rattle.std.proofs.lemmas.Iterator.Search.{position_from_yields_List}
use Rattle.target.specs.Paths.{is_question_mark}
use Rattle.target.proofs.PlaceLemmas.{place_or_end}
use Rattle.target.proofs.segments.question_mark.Goals as goal

pub returns-clause-place : goal.returns-clause-place
returns-clause-place c =
    let text = c.args.text.now in
    let found = position_from_yields_List is_question_mark _ _ c.position.result c.position.ensures.ran
    (YieldsList-from_slice text cc) (λ x b q k. search (rules, tests)) in
    c.unwrap_or.ensures ∙ ap (λ o. unwrap_or o (length text)) found ∙ place_or_end is_question_mark text
