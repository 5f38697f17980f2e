use Rattle.std.proofs.Common.{◌≡◌, All, subst, sym}
use Rattle.td_top.proofs.server.conclude.Goals as goal

pub learn_last-learnt-requires-clause-dones : goal.learn_last-learnt-requires-clause-dones
learn_last-learnt-requires-clause-dones g c = subst (λ p. All (λ d. d.desk.pair ≡ p) c.args.dones.items) (sym c.in-Ok.ensures.ended.0) c.requires
