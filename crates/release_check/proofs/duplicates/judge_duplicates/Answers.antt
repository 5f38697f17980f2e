use Rattle.release_check.proofs.Repeats.{kept_next, repeats_next, was_none}
use Rattle.release_check.proofs.duplicates.judge_duplicates.Goals as goal

pub loop-name-preserved : goal.loop-name-preserved
loop-name-preserved c = record {
  kept = kept_next (λ n. n.now) c.args.names.now c.loop-name.name-index _ _ _ c.loop-name-test.true c.loop-name.invariant.kept c.in_ok-put_new.ensures.put;
  so_far = repeats_next (λ n. n.now) c.args.names.now c.loop-name.name-index _ c.loop-name-test.true
      (was_none _ _ _ c.in_ok-put_new.ensures.none (c.loop-name.invariant.kept _) c.if-not-branch.false) c.loop-name.invariant.so_far;
}
