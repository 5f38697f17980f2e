use Rattle.std.proofs.Common.{Some, ap, sym, ◌∙◌}
use Rattle.publication.proofs.Beginnings.{last_stands}
use Rattle.publication.proofs.publisher.PublisherOf.last.Goals as goal

pub returns-clause-stands : goal.returns-clause-stands
returns-clause-stands g c = rw (← c.self.view_is)
    (last_stands g.V.Value.last g.V.Value.stands c.self.inside.last.prefix.log _ c.deref.result.now c.are_of_one.ensures.that c.are_of_one.ensures.stand
    (c.self.inside.last.is_last ∙ ap Some (sym c.deref.ensures)))
