use Rattle.std.proofs.Common.{refl}
use Rattle.subscribers.proofs.lemmas.Preparing.{idle_cleared, one_cleared}
use Rattle.installer.proofs.installing.Installer.clear.Goals as goal

pub invariant_of-self : goal.invariant_of-self
invariant_of-self c = rw c.clear.ensures (idle_cleared c.args.number c.self.inside.subscribers c.self.invariant)

pub returns : goal.returns
returns c = rw (← c.self.view_is, c.clear.ensures, one_cleared c.args.number c.self.inside.subscribers) refl
