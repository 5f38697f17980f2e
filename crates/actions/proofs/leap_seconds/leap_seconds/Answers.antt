use Rattle.actions.proofs.LastRelease.{publisher_is_plain, version_is_plain, table_is_sound, leaps_are, no_leaps_are}
use Rattle.actions.proofs.Named.{answered}
use Rattle.actions.proofs.leap_seconds.leap_seconds.Goals as goal

pub leap_text-requires-clause-leaps : goal.leap_text-requires-clause-leaps
leap_text-requires-clause-leaps c =
    let sound = table_is_sound c.requires.0 _ c.requires.1.history (c.in-Some.ensures c.requires.0 c.requires.1) in
    record {
      expires = c.dates_are_plain.ensures _ sound.expires;
      steps = c.steps_are_dated.ensures _ _ sound.lines sound.steps;
    }

pub leap_text-requires-clause-publisher : goal.leap_text-requires-clause-publisher
leap_text-requires-clause-publisher c =
    publisher_is_plain c.requires.0 _ c.requires.1.history (c.publisher.ensures c.requires.0 c.requires.1)

pub leap_text-requires-clause-version : goal.leap_text-requires-clause-version
leap_text-requires-clause-version c =
    version_is_plain c.requires.0 _ c.requires.1.history (c.version.ensures c.requires.0 c.requires.1)

pub returns-in_ok-leap_text-in-Some-clause-answer : goal.returns-in_ok-leap_text-in-Some-clause-answer
returns-in_ok-leap_text-in-Some-clause-answer c =
    λ H stands.
    rw (c.document.ensures, c.in_ok-leap_text-in-Some.ensures.ok, c.new-body.ensures)
    (leaps_are H _ _ _ (c.in-Some.ensures H stands) (c.publisher.ensures H stands) (c.version.ensures H stands))

pub returns-in-None-clause-answer : goal.returns-in-None-clause-answer
returns-in-None-clause-answer c = λ H stands. answered _ _ _ c.unknown_action.ensures (no_leaps_are H (c.in-None.ensures H stands))
