use Rattle.sync_core.proofs.Kept.{zone_sorted}
use Rattle.sync_core.proofs.listed.sorted.Goals as goal

pub loop-zone-preserved-in_ok-insert : goal.loop-zone-preserved-in_ok-insert
loop-zone-preserved-in_ok-insert c =
    let i = c.loop-zone.invariant in
    let after = zone_sorted c.in-Some.zone _ _ _ _ c.in_ok-clone_in.field-0 _ i.named i.whole
    c.in-Some.ensures.steps.0 c.in_ok-clone_in.ensures c.in_ok-insert.ensures.entries in
    record { named = after.0; whole = after.1 }

pub loop-zone-preserved : goal.loop-zone-preserved
loop-zone-preserved c =
    let i = c.loop-zone.invariant in
    let after = zone_sorted c.in-Some.zone _ _ _ _ c.in_ok-clone_in.field-0 _ i.named i.whole
    c.in-Some.ensures.steps.0 c.in_ok-clone_in.ensures c.in_ok-insert.ensures.entries in
    record { named = after.0; whole = after.1 }
