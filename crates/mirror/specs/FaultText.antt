-- How the fault of a sync is printed: number, name and values, with a space between them; the kept
-- answer is not printed.
use Rattle.std.specs.Prelude.{ℕ, List, ◌++◌, codes, decimal}
use Rattle.mirror.specs.declared.sync_fault.SyncFault.{SyncFault}
use Rattle.mirror.specs.declared.sync_fault.SyncFault.TheVariants as fault

abbrev pub fault_text : SyncFault → List ℕ
fault_text fault.NoMemory = codes "0 NoMemory"
fault_text fault.UpstreamFault = codes "1 UpstreamFault"
fault_text (fault.BadAnswer exchange place answer) =
    codes "2 BadAnswer " ++ (decimal exchange ++ (codes " " ++ decimal place))
fault_text (fault.Refused exchange status) =
    codes "3 Refused " ++ (decimal exchange ++ (codes " " ++ decimal status))
fault_text (fault.NotSettled lists) = codes "4 NotSettled " ++ decimal lists
