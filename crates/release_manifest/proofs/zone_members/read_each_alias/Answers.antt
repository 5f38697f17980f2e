use Rattle.std.proofs.Common.{◌∙◌}
use Rattle.std.proofs.lemmas.Result.{err_from_is_err_and}
use Rattle.release_manifest.proofs.CheckLemmas.{next_passes, next_fails, next_is, all_are, none_fails}
use Rattle.release_manifest.proofs.zone_members.read_each_alias.Goals as goal

pub returns-in_err-read_alias-clause-judged : goal.returns-in_err-read_alias-clause-judged
returns-in_err-read_alias-clause-judged c =
    let p = err_from_is_err_and c.from_residual.result c.from_residual.ensures.1 in
    rw (p.1, p.2)
    (λ n. c.loop-number.invariant.judged
    ∙ next_fails _ _ _ _ _ c.loop-number-test.true c.index-list-number.is (c.in_err-read_alias.ensures.judged n))

pub loop-number-preserved : goal.loop-number-preserved
loop-number-preserved c = record {
  is = λ rest all. rw c.in_ok-push.ensures.ok (next_is _ _ _ _ _ _ c.loop-number-test.true c.index-list-number.is
      c.loop-number.invariant.is c.in_ok-read_alias.ensures.found rest all);
  judged = c.loop-number.invariant.judged
      ∙ next_passes _ _ _ _ c.loop-number-test.true c.index-list-number.is c.in_ok-read_alias.ensures.judged;
}

pub returns-clause-found : goal.returns-clause-found
returns-clause-found c = all_are _ _ _ _ c.loop-number-test.false c.loop-number.invariant.is

pub returns-clause-judged : goal.returns-clause-judged
returns-clause-judged c = c.loop-number.invariant.judged ∙ none_fails _ _ _ c.loop-number-test.false
