use Rattle.std.proofs.Common.{ap, ◌∙◌}
use Rattle.publication.specs.Histories.{values}
use Rattle.td_base.proofs.lemmas.Beginnings.{prefix_self}
use Rattle.publication.proofs.publisher.PublisherOf.end.Goals as goal

pub show-stage-requires-clause-longer : goal.show-stage-requires-clause-longer
show-stage-requires-clause-longer g c =
    let old = rw c.unwrap-stage.ensures at c.self.invariant.0 in
    rw (old.2, ap (λ s. values s.log) c.in-Ok.ensures.alike ∙ c.in-Ok.ensures.list) (prefix_self _)

pub returns-clause-ended : goal.returns-clause-ended
returns-clause-ended g c = (c.in-Ok.ensures.book ∙ ap (λ s. s.pair) c.self.view_is, c.in-Ok.ensures.list ∙ ap (λ s. s.list) c.self.view_is)
