use Rattle.std.proofs.Common.{◌∙◌, ap}
use Rattle.catalogue.specs.Lookups.{place_named}
use Rattle.actions.proofs.Named.{name_is_plain, file_is_sound, found_is, missing_is, answered}
use Rattle.actions.proofs.expanding.expand.Goals as goal

pub expand_zone-requires-clause-name : goal.expand_zone-requires-clause-name
expand_zone-requires-clause-name c =
    let H = c.requires.0 in
    name_is_plain H c.args.name.now c.in-Some.place _
    (c.in-Some.ensures.place H c.requires.1 ∙ ap (place_named H) c.as_slice.ensures)
    (c.entry.ensures.entry H c.requires.1) (c.entry.ensures.plain H c.requires.1)

pub expand_zone-requires-clause-sound : goal.expand_zone-requires-clause-sound
expand_zone-requires-clause-sound c =
    file_is_sound c.requires.0 c.in-Some.place _ c.requires.1.history (c.entry.ensures.entry c.requires.0 c.requires.1)

pub returns-in-Some-clause-answer : goal.returns-in-Some-clause-answer
returns-in-Some-clause-answer c =
    λ H stands. answered _ _ _ c.expand_zone.ensures.answer
    (found_is H c.args.name.now c.in-Some.place _ c.args.start.now c.args.end.now
    (c.in-Some.ensures.place H stands ∙ ap (place_named H) c.as_slice.ensures) (c.entry.ensures.entry H stands))

pub returns-in-None-clause-answer : goal.returns-in-None-clause-answer
returns-in-None-clause-answer c =
    λ H stands. answered _ _ _ c.refusal.ensures
    (missing_is H c.args.name.now c.args.start.now c.args.end.now
    (c.in-None.ensures.place H stands ∙ ap (place_named H) c.as_slice.ensures))
