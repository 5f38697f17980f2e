-- The fault of leap lines that are no table of leap seconds.
use Rattle.std.specs.Prelude.{List, Option}
use Rattle.std.specs.Option.{option_map}
use Rattle.tzif_reader.specs.LeapSteps.{LeapCause, Step, Midnight, leap_fault}
use Rattle.tzif_reader.specs.declared.zone_file.LeapLine.{LeapLine}
use Rattle.leap_table.specs.declared.leap_fault.LeapFault.{LeapFault}
use Rattle.leap_table.specs.declared.leap_fault.LeapFault.TheVariants as fault

abbrev pub table_cause : LeapCause → LeapFault
table_cause (Step line) = fault.Step line
table_cause (Midnight line) = fault.Midnight line

-- the fault of the first line that does not fit
abbrev pub table_fault : List LeapLine → Option LeapFault
table_fault lines = option_map table_cause (leap_fault lines)
