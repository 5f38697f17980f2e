use Rattle.std.proofs.Common.{sym, ◌∙◌}
use Rattle.subscribers.specs.Wishes.{same_wish_kind}
use Rattle.admission.proofs.lemmas.Keeping.{kind_later}
use Rattle.subscribers.proofs.noticing.is_taken.Goals as goal

pub loop-want-preserved : goal.loop-want-preserved
loop-want-preserved g c =
    kind_later _ (λ kind. same_wish_kind c.args.wish.now.kind kind) c.args.wants.now c.loop-want.want-index c.want-item.result c.loop-want-test.true c.want-item.is
    (sym c.is_kind.ensures ∙ c.if-is_kind.false) c.loop-want.invariant
