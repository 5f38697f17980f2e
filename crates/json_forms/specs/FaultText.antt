-- How the fault of a list is printed: number, name and place, with a space between them.
use Rattle.std.specs.Prelude.{ℕ, List, ◌++◌, codes, decimal}
use Rattle.json_forms.specs.declared.list_fault.BadList.{BadList}
use Rattle.json_forms.specs.declared.list_fault.BadList.TheVariants as bad

abbrev pub fault_text : BadList → List ℕ
fault_text bad.NoMemory = codes "0 NoMemory"
fault_text (bad.BadList place) = codes "1 BadList " ++ decimal place
