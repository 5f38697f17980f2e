use Rattle.std.proofs.Common.{rules}
use Rattle.plain_commands.proofs.CalendarRuns.{refuses_calendars}
use Rattle.plain_commands.proofs.calendar_mirroring.refuse_sync.Goals as goal

pub returns-in_default : goal.returns-in_default
returns-in_default g c = search (refuses_calendars, rules)
