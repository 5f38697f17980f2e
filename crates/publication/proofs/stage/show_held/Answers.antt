use Rattle.std.proofs.Common.{sym, ◌∙◌}
use Rattle.publication.proofs.stage.show_held.Goals as goal

pub show-stage-requires-clause-longer : goal.show-stage-requires-clause-longer
show-stage-requires-clause-longer g c = (rw (sym c.take.ensures.value ∙ c.unwrap.ensures) at c.requires).2

pub returns-in-None : goal.returns-in-None
returns-in-None g c =
    let held = sym c.take.ensures.value ∙ c.unwrap.ensures in
    let old = rw held at c.requires in
    rw (c.replace.ensures.after, held) (c.show-stage.ensures.rest.0, c.show-stage.ensures.rest.1 ∙ old.1, c.show-stage.ensures.list)

pub returns-in-Some : goal.returns-in-Some
returns-in-Some g c =
    let held = sym c.take.ensures.value ∙ c.unwrap.ensures in
    let old = rw held at c.requires in
    rw (c.replace.ensures.after, held) (c.show-stage.ensures.rest.0, c.show-stage.ensures.rest.1 ∙ old.1, c.show-stage.ensures.list)
