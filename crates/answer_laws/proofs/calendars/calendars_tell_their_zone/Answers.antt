use Rattle.answer_laws.proofs.Told.{tells_in_lines, tells_as_json}
use Rattle.answer_laws.proofs.calendars.calendars_tell_their_zone.Goals as goal

pub returns-clause-lines : goal.returns-clause-lines
returns-clause-lines c = tells_in_lines c.calendars_spell_the_zone.ensures.lines c.parts_mean.ensures

pub returns-clause-json : goal.returns-clause-json
returns-clause-json c =
    tells_as_json c.calendars_spell_the_zone.ensures.json c.calendars_read_back.ensures.tree c.parts_mean.ensures c.zone_parts_are_spellable.ensures
