-- How the faults of an install are printed: that of a folder as it is.
use Rattle.std.specs.Prelude.{ℕ, List, ◌++◌, codes, decimal}
use Rattle.release_check.specs.FaultText.{fault_text as check_text, shown_text as check_shown}
use Rattle.release_check.specs.declared.check_fault.CheckFault.{CheckFault}
use Rattle.release_check.specs.declared.check_fault.CheckFault.TheVariants as check
use Rattle.installer.specs.declared.install_fault.InstallFault.{InstallFault}
use Rattle.installer.specs.declared.install_fault.InstallFault.TheVariants as fault

-- a folder's fault as that of an install
abbrev pub of_check : CheckFault → InstallFault
of_check check.NoMemory = fault.NoMemory
of_check f = fault.Check f

abbrev pub fault_text : InstallFault → List ℕ
fault_text fault.NoMemory = codes "0 NoMemory"
fault_text (fault.Check f) = check_text f
fault_text (fault.Policy k) = codes "17 Policy " ++ decimal k

-- the same as text, without a name or a path that is not UTF-8
abbrev pub shown_text : InstallFault → List ℕ
shown_text fault.NoMemory = codes "0 NoMemory"
shown_text (fault.Check f) = check_shown f
shown_text (fault.Policy k) = codes "17 Policy " ++ decimal k
