use Rattle.sync_core.proofs.Kept.{alias_put}
use Rattle.sync_core.proofs.aliases.put_aliases.Goals as goal

pub loop-alias-preserved : goal.loop-alias-preserved
loop-alias-preserved c = λ name.
    alias_put name c.args.aliases.now c.loop-alias.alias-index c.alias-item.result c.in_ok-clone_in.field-0 _ _ _ c.loop-alias-test.true
    c.alias-item.is c.in_ok-clone_in.ensures
    c.in_ok-insert.ensures.keys (c.loop-alias.invariant name)
