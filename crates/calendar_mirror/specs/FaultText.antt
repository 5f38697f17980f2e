-- How the fault of a sync is printed: number, name and values, with a space between them; of a
-- calendar's fault its own text.
use Rattle.std.specs.Prelude.{ℕ, List, ◌++◌, codes, decimal}
use Rattle.mirror.specs.FaultText.{fault_text as sync_text}
use Rattle.vtimezone_reader.specs.FaultText.{fault_text as calendar_text}
use Rattle.calendar_mirror.specs.declared.sync_fault.CalendarSyncFault.{CalendarSyncFault}
use Rattle.calendar_mirror.specs.declared.sync_fault.CalendarSyncFault.TheVariants as fault

abbrev pub fault_text : CalendarSyncFault → List ℕ
fault_text (fault.Sync f) = sync_text f
fault_text (fault.BadCalendar exchange f) =
    codes "5 BadCalendar " ++ (decimal exchange ++ (codes " " ++ calendar_text f))
fault_text (fault.WrongName exchange) = codes "6 WrongName " ++ decimal exchange
