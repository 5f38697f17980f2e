-- Exchanges that are told, by one row of calls after another.
use Rattle.std.proofs.Common.{List, [], ◌++◌, Option, None, Some, sym, ◌∙◌, ap, append_assoc, append-nil}
use Rattle.td_base.specs.Upstreams.{TellsMore}
use Rattle.td_base.specs.declared.upstream.Exchange.{Exchange}

pub tells_on : (a b c : Option (List Exchange)) (xs ys : List Exchange) → TellsMore a b xs → TellsMore b c ys → TellsMore a c (xs ++ ys)
tells_on (Some a) (Some b) (Some c) xs ys p q = q ∙ ap (λ l. l ++ ys) p ∙ append_assoc a xs ys
tells_on (Some a) (Some b) None xs ys p q = absurd q
tells_on (Some a) None c xs ys p q = absurd p
tells_on None (Some b) c xs ys p q = absurd p
tells_on None None (Some c) xs ys p q = absurd q
tells_on None None None xs ys p q = tt

pub tells_none : (o : Option (List Exchange)) → TellsMore o o []
tells_none None = tt
tells_none (Some xs) = sym (append-nil xs)
