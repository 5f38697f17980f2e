-- How the faults are printed: number, name and place, with a space between them.
use Rattle.std.specs.Prelude.{ℕ, List, ◌++◌, codes, decimal}
use Rattle.find_pattern.specs.declared.pattern_fault.BadPattern.{BadPattern}
use Rattle.find_pattern.specs.declared.pattern_fault.BadPattern.TheVariants as bad

abbrev pub fault_text : BadPattern → List ℕ
fault_text bad.NoMemory = codes "0 NoMemory"
fault_text (bad.BadPattern place) = codes "1 BadPattern " ++ decimal place
