use Rattle.std.proofs.Common.{◌∙◌, ap}
use Rattle.catalogue.specs.Lookups.{place_named}
use Rattle.actions.proofs.Named.{file_is_sound, data_is, no_data_is, answered}
use Rattle.actions.proofs.TextNames.{names_are_texts}
use Rattle.actions.proofs.getting.get.Goals as goal

pub get_zone-requires-clause-names : goal.get_zone-requires-clause-names
get_zone-requires-clause-names c =
    names_are_texts c.requires.0 c.args.name.now c.in-Some.place _ c.requires.1.history
    (c.in-Some.ensures.place c.requires.0 c.requires.1 ∙ ap (place_named c.requires.0) c.as_slice.ensures)
    (c.entry.ensures.entry c.requires.0 c.requires.1)

pub get_zone-requires-clause-sound : goal.get_zone-requires-clause-sound
get_zone-requires-clause-sound c =
    file_is_sound c.requires.0 c.in-Some.place _ c.requires.1.history (c.entry.ensures.entry c.requires.0 c.requires.1)

pub returns-in-Some-clause-answer : goal.returns-in-Some-clause-answer
returns-in-Some-clause-answer c =
    λ H stands. answered _ _ _ c.get_zone.ensures.answer
    (data_is H _ _ c.args.name.now c.in-Some.place _ c.args.start.now c.args.end.now
    (c.in-Some.ensures.place H stands ∙ ap (place_named H) c.as_slice.ensures) (c.entry.ensures.entry H stands))

pub returns-in-None-clause-answer : goal.returns-in-None-clause-answer
returns-in-None-clause-answer c =
    λ H stands. answered _ _ _ c.refusal.ensures
    (no_data_is H _ _ c.args.name.now c.args.start.now c.args.end.now
    (c.in-None.ensures.place H stands ∙ ap (place_named H) c.as_slice.ensures))
