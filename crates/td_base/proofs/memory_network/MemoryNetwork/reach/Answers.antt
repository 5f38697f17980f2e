use Rattle.std.proofs.Common.{subst}
use Rattle.std.proofs.lemmas.List.Elements.{All-tail}
use Rattle.std.specs.Prelude.{All}
use Rattle.td_base.specs.MemoryNetworks.{TellsNone}
use Rattle.td_base.proofs.memory_network.MemoryNetwork.reach.Goals as goal

pub invariant_of-self-in-Some : goal.invariant_of-self-in-Some
invariant_of-self-in-Some g c = (
  c.self.invariant.0,
  All-tail (λ u. TellsNone (g.U.Upstream.seen u)) _ _
      (subst (All (λ u. TellsNone (g.U.Upstream.seen u))) c.in-Some.ensures.items c.self.invariant.1),
)
