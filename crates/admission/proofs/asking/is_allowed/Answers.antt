use Rattle.std.proofs.Common.{sym, ◌∙◌}
use Rattle.admission.specs.Rules.{same_kind}
use Rattle.admission.proofs.lemmas.Keeping.{kind_later}
use Rattle.admission.proofs.asking.is_allowed.Goals as goal

pub loop-test-preserved : goal.loop-test-preserved
loop-test-preserved g c =
    kind_later _ (λ kind. same_kind c.args.rule.kind kind) c.args.kept.now c.loop-test.test-index c.test-item.result c.loop-test-test.true c.test-item.is
    (sym c.is_kind.ensures ∙ c.if-is_kind.false) c.loop-test.invariant
