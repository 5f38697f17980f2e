use Rattle.std.proofs.Common.{take-add, ap, refl}
use Rattle.std.proofs.lemmas.List.{take_rest}
use Rattle.td_base.proofs.memory_source.MemorySourceSource.read.Goals as goal

pub returns-clause-given : goal.returns-clause-given
returns-clause-given c =
    rw (
      ← ap (λ s. s.given) c.self.view_is,
      take-add c.self.inside.at c.next-size.result c.self.inside.bytes,
      c.copy_prefix.ensures,
      take_rest c.as_slice.result.now c.self.inside.at,
      c.as_slice.ensures,
    ) refl
