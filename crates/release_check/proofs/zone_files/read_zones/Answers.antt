use Rattle.release_check.proofs.Contents.{so_far_more, of_next}
use Rattle.release_check.proofs.Looking.{if_both}
use Rattle.td_base.proofs.lemmas.LaterLemmas.{store_trans}
use Rattle.release_check.proofs.zone_files.read_zones.Goals as goal

pub loop-number-preserved : goal.loop-number-preserved
loop-number-preserved g c = record {
  told = rw c.in_ok-push.ensures.ok (if_both _ _ _ _
      (λ files so_far read. so_far_more files c.args.dir.now c.args.zones.now c.loop-number.contents c.loop-number.number c.index-zones-number.result
      c.in_ok-content.content c.loop-number-test.true c.index-zones-number.is so_far read)
      c.loop-number.invariant.told (rw c.loop-number.invariant.later.kept at c.in_ok-content.ensures.found.told));
  later = store_trans _ _ _ c.loop-number.invariant.later c.in_ok-content.ensures.found.later;
  of = rw c.in_ok-push.ensures.ok (of_next c.args.zones.now c.loop-number.contents c.loop-number.number c.index-zones-number.result c.in_ok-content.content
      c.loop-number-test.true c.index-zones-number.is c.loop-number.invariant.of c.in_ok-content.ensures.of);
}
