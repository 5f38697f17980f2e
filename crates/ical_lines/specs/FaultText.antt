-- How the faults are printed: number, name and place, with a space between them.
use Rattle.std.specs.Prelude.{ℕ, List, ◌++◌, codes, decimal}
use Rattle.ical_lines.specs.declared.line_fault.BadLine.{BadLine}
use Rattle.ical_lines.specs.declared.line_fault.BadLine.TheVariants as bad

abbrev pub fault_text : BadLine → List ℕ
fault_text bad.NoMemory = codes "0 NoMemory"
fault_text (bad.BadLine place) = codes "1 BadLine " ++ decimal place
