-- How the faults are printed: number, name and value, with a space between them.
use Rattle.std.specs.Prelude.{ℕ, List, ◌++◌, codes, decimal}
use Rattle.release_manifest.specs.declared.manifest_fault.ManifestFault.{ManifestFault}
use Rattle.release_manifest.specs.declared.manifest_fault.ManifestFault.TheVariants as fault
use Rattle.release_manifest.specs.declared.manifest_fault.Path.{Path}
use Rattle.release_manifest.specs.declared.manifest_fault.Path.TheVariants as path

-- the path of a member
abbrev pub path_text : Path → List ℕ
path_text path.Whole = codes "$"
path_text path.Publisher = codes "publisher"
path_text path.Version = codes "version"
path_text path.Stamp = codes "stamp"
path_text path.Zones = codes "zones"
path_text (path.Zone zone) = codes "zones[" ++ decimal zone ++ codes "]"
path_text (path.Tzid zone) = codes "zones[" ++ decimal zone ++ codes "].tzid"
path_text (path.File zone) = codes "zones[" ++ decimal zone ++ codes "].file"
path_text (path.Aliases zone) = codes "zones[" ++ decimal zone ++ codes "].aliases"
path_text (path.Alias zone alias) =
    codes "zones[" ++ decimal zone ++ codes "].aliases[" ++ decimal alias ++ codes "]"
path_text path.Leaps = codes "leapseconds"
path_text path.LeapFile = codes "leapseconds.file"
path_text path.Expires = codes "leapseconds.expires"

abbrev pub fault_text : ManifestFault → List ℕ
fault_text fault.NoMemory = codes "0 NoMemory"
fault_text fault.Syntax = codes "1 Syntax"
fault_text (fault.Field at) = codes "2 Field " ++ path_text at
fault_text (fault.Text at) = codes "3 Text " ++ path_text at
fault_text fault.Long = codes "4 Long"
