use Rattle.std.specs.Option.{option_copied}
use Rattle.vtimezone.proofs.CalendarBack.{appended_back}
use Rattle.vtimezone.proofs.calendar_text.write.Goals as goal

pub returns-clause-spells : goal.returns-clause-spells
returns-clause-spells c =
    appended_back c.args.out.now c.append_calendar.new.out c.args.tzid.now (option_copied c.args.alias_of) c.args.parts.now c.args.until
    c.requires.tzid c.requires.alias_of c.requires.until c.requires.some c.requires.parts c.in_default.ensures.ok
