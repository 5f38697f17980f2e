-- How the faults are printed: number, name and value, with a space between them.
use Rattle.std.specs.Prelude.{ℕ, List, ◌++◌, codes, decimal}
use Rattle.posix_footer.specs.declared.footer_fault.FooterFault.{FooterFault}
use Rattle.posix_footer.specs.declared.footer_fault.FooterFault.TheVariants as fault

abbrev pub fault_text : FooterFault → List ℕ
fault_text (fault.Name place) = codes "1 Name " ++ decimal place
fault_text (fault.Offset place) = codes "2 Offset " ++ decimal place
fault_text fault.NoRule = codes "3 NoRule"
fault_text (fault.Date place) = codes "4 Date " ++ decimal place
fault_text (fault.Time place) = codes "5 Time " ++ decimal place
fault_text (fault.Rest place) = codes "6 Rest " ++ decimal place
