-- What the fault of a zone prints: what the fault in it does.
use Rattle.std.specs.Prelude.{ℕ, List, codes}
use Rattle.tzif_reader.specs.FaultText as file
use Rattle.posix_footer.specs.FaultText as footer
use Rattle.zone_meaning.specs.declared.zone_fault.ZoneFault.{ZoneFault}
use Rattle.zone_meaning.specs.declared.zone_fault.ZoneFault.TheVariants.{NoMemory, Tzif, Footer}

abbrev pub fault_text : ZoneFault → List ℕ
fault_text NoMemory = codes "0 NoMemory"
fault_text (Tzif fault) = file.fault_text fault
fault_text (Footer fault) = footer.fault_text fault
