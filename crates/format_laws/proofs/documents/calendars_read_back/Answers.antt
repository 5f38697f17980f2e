use Rattle.std.proofs.Common.{ap, ◌∙◌}
use Rattle.std.specs.Option.{option_and_then}
use Rattle.jcal.specs.Reading.{spelled}
use Rattle.format_laws.proofs.CalendarReads.{calendar_reads}
use Rattle.format_laws.proofs.documents.calendars_read_back.Goals as goal

pub returns-clause-tree : goal.returns-clause-tree
returns-clause-tree c = calendar_reads

pub returns-clause-spells : goal.returns-clause-spells
returns-clause-spells c tzid alias_of parts until safe alias end some spellable =
    ap (option_and_then spelled) (calendar_reads tzid alias_of parts until spellable)
    ∙ c.calendar_spells.ensures tzid alias_of parts until safe alias end some spellable
