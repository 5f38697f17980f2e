use Rattle.std.proofs.Common.{IfOk, ◌≡◌, subst}
use Rattle.answer_cache.proofs.Gets as gets
use Rattle.answer_cache.proofs.cache.AnswerCache.get.Goals as goal

pub returns-then-promote-clause-answer : goal.returns-then-promote-clause-answer
returns-then-promote-clause-answer g c =
    subst (λ x. IfOk c.to_answer.result (λ answer. answer ≡ x))
    (gets.lent_right _ _ _ _ c.requires.right c.promote.ensures.kept _ (c.promote.ensures.first c.if-promote.true) c.newest.ensures) c.to_answer.ensures

pub returns-then-promote-clause-right : goal.returns-then-promote-clause-right
returns-then-promote-clause-right g c = λ other kept k. c.requires.right other kept (c.promote.ensures.kept.pairs other kept k)

pub returns-in_err-answer-clause-right : goal.returns-in_err-answer-clause-right
returns-in_err-answer-clause-right g c =
    gets.none_wrong _ _ _ c.args.key.now c.requires.right c.promote.ensures.kept _ c.compute.ensures.same_answers

pub returns-clause-right : goal.returns-clause-right
returns-clause-right g c =
    gets.one_right _ _ _ _ c.requires.right c.promote.ensures.kept _ c.compute.ensures.same_answers _ _ c.in_ok-answer.ensures.answer c.keep_copy.ensures

pub returns-clause-kept : goal.returns-clause-kept
returns-clause-kept g c =
    gets.one_added _ _ _ _ c.requires.right c.promote.ensures.kept _ c.compute.ensures.same_answers _ _ c.in_ok-answer.ensures.answer c.keep_copy.ensures
