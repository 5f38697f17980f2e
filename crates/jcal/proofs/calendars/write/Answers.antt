use Rattle.std.proofs.Common.{rules}
use Rattle.std.specs.Option.{option_copied}
use Rattle.jcal.proofs.SpellsBack.{calendar_back}
use Rattle.jcal.proofs.calendars.write.Goals as goal

pub returns-clause-spells : goal.returns-clause-spells
returns-clause-spells c =
    search (rules, calendar_back c.args.tzid.now (option_copied c.args.alias_of) c.args.parts.now c.args.until c.requires.until c.requires.some c.requires.parts)
