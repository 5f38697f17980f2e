-- How the faults are printed: number, name and value, with a space between them.
use Rattle.std.specs.Prelude.{ℕ, List, ◌++◌, codes, decimal}
use Rattle.tzif_reader.specs.declared.tzif_fault.TzifFault.{TzifFault}
use Rattle.tzif_reader.specs.declared.tzif_fault.TzifFault.TheVariants as fault

abbrev pub fault_text : TzifFault → List ℕ
fault_text fault.NoMemory = codes "0 NoMemory"
fault_text fault.Magic = codes "1 Magic"
fault_text fault.Version = codes "2 Version"
fault_text (fault.Short place) = codes "3 Short " ++ decimal place
fault_text fault.Counts = codes "4 Counts"
fault_text (fault.Order place) = codes "5 Order " ++ decimal place
fault_text (fault.TypeNumber place) = codes "6 TypeNumber " ++ decimal place
fault_text (fault.Designation place) = codes "7 Designation " ++ decimal place
fault_text (fault.Indicator place) = codes "8 Indicator " ++ decimal place
fault_text (fault.OffsetBeyond place) = codes "9 OffsetBeyond " ++ decimal place
fault_text fault.TooLarge = codes "10 TooLarge"
fault_text fault.TooLate = codes "11 TooLate"
fault_text fault.FooterFrame = codes "12 FooterFrame"
fault_text (fault.Trailing place) = codes "13 Trailing " ++ decimal place
