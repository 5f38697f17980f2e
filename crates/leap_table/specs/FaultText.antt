-- How the fault of a table of leap seconds is printed: number, name and value, with a space between
-- them.
use Rattle.std.specs.Prelude.{ℕ, List, ◌++◌, codes, decimal}
use Rattle.leap_table.specs.declared.leap_fault.LeapFault.{LeapFault}
use Rattle.leap_table.specs.declared.leap_fault.LeapFault.TheVariants as fault

abbrev pub fault_text : LeapFault → List ℕ
fault_text fault.NoMemory = codes "0 NoMemory"
fault_text (fault.Step line) = codes "1 Step " ++ decimal line
fault_text (fault.Midnight line) = codes "2 Midnight " ++ decimal line
