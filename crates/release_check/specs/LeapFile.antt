-- What the file of leap seconds of a release gives.
use Rattle.std.specs.Prelude.{ℕ, List, ℤ, map, Option}
use Rattle.std.specs.Option.{option_map}
use Rattle.td_base.specs.FirstFault.{◌or_else◌}
use Rattle.tzif_reader.specs.Cut.{lists_of}
use Rattle.tzif_reader.specs.Faults.{first_fault}
use Rattle.tzif_reader.specs.LeapSteps.{LeapCause, Step, Midnight, leap_fault, leap_steps}
use Rattle.tzif_reader.specs.declared.tzif_fault.TzifFault.{TzifFault}
use Rattle.catalogue.specs.declared.release.LeapStep.{LeapStep}
use Rattle.catalogue.specs.declared.release.Leaps.{Leaps}
use Rattle.release_check.specs.declared.check_fault.CheckFault.{CheckFault}
use Rattle.release_check.specs.declared.check_fault.CheckFault.TheVariants as fault
use Rattle.release_check.specs.declared.check_fault.LeapFileFault.TheVariants as leap

-- it is no zone file
abbrev pub of_file : TzifFault → CheckFault
of_file f = fault.Leap (leap.File f)

-- its leap lines are no table
abbrev pub of_cause : LeapCause → CheckFault
of_cause (Step line) = fault.Leap (leap.Step line)
of_cause (Midnight line) = fault.Leap (leap.Midnight line)

-- the first fault of the file
unfoldable pub leap_file_fault : List ℕ → Option CheckFault
leap_file_fault bytes =
    option_map of_file (first_fault bytes)
    or_else option_map of_cause (leap_fault (lists_of bytes).leaps)

-- the table of the file, which holds up to a date
abbrev pub step_of_pair : ℤ × ℤ → LeapStep
step_of_pair step = record { day = step.0; offset = step.1 }

unfoldable pub table_of : List ℕ → List ℕ → Leaps
table_of bytes expires = record {
  file = bytes;
  expires = expires;
  steps = map step_of_pair (leap_steps (lists_of bytes).leaps);
}
