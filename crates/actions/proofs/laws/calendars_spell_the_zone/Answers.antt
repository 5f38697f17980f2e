use Rattle.actions.specs.Bounds.{end_if_any, range_between}
use Rattle.actions.specs.Formats.{alias_of, calendar_text}
use Rattle.vtimezone.specs.ZoneParts.{range_parts}
use Rattle.actions.proofs.Aliases.{alias_safe}
use Rattle.actions.proofs.laws.calendars_spell_the_zone.Goals as goal

pub returns-clause-lines : goal.returns-clause-lines
unfolding calendar_text
returns-clause-lines c = λ name zone bounds sound texts are.
    c.zone_calendar_spells.ensures zone.file (range_between bounds) name (alias_of name zone.tzid) sound.no_fault sound.names sound.carried
    are.start are.end texts.name (alias_safe name zone.tzid texts.tzid)

pub returns-clause-json : goal.returns-clause-json
returns-clause-json c = λ name zone bounds sound texts are.
    let parts = range_parts zone.file (range_between bounds) in
    let spellable = c.zone_parts_are_spellable.ensures zone.file (range_between bounds) sound.no_fault sound.names sound.carried are.start are.end in
    c.calendar_spells.ensures name (alias_of name zone.tzid) parts (end_if_any bounds.end) texts.name (alias_safe name zone.tzid texts.tzid)
    spellable.1.1 spellable.0 spellable.1.0
