-- What a function that looks for a fault of a folder answers.
use Rattle.std.specs.Prelude.{◌≡◌, ◌≢◌, ℕ, List, Option, Some, Result, Ok, Err}
use Rattle.td_base.specs.FirstFault.{IsFirstFault}
use Rattle.tzif_reader.specs.declared.tzif_fault.TzifFault.{TzifFault}
use Rattle.tzif_reader.specs.declared.tzif_fault.TzifFault.TheVariants as tzif
use Rattle.release_manifest.specs.Reading.{manifest_text_fault}
use Rattle.release_manifest.specs.declared.manifest_fault.ManifestFault.{ManifestFault}
use Rattle.release_manifest.specs.declared.manifest_fault.ManifestFault.TheVariants as manifest
use Rattle.leap_table.specs.declared.leap_fault.LeapFault.{LeapFault}
use Rattle.leap_table.specs.declared.leap_fault.LeapFault.TheVariants as table
use Rattle.zone_meaning.specs.declared.zone_fault.ZoneFault.{ZoneFault}
use Rattle.zone_meaning.specs.declared.zone_fault.ZoneFault.TheVariants as zone
use Rattle.release_check.specs.declared.check_fault.LeapFileFault.TheVariants as leap
use Rattle.release_check.specs.declared.check_fault.CheckFault.{CheckFault}
use Rattle.release_check.specs.declared.check_fault.CheckFault.TheVariants as fault

-- the reader's fault of the file of the zone with this number
abbrev pub of_reader : ℕ → TzifFault → CheckFault
of_reader n tzif.NoMemory = fault.NoMemory
of_reader n f = fault.Tzif n f

-- the fault of the zone with this number
abbrev pub of_zone : ℕ → ZoneFault → CheckFault
of_zone n zone.NoMemory = fault.NoMemory
of_zone n (zone.Tzif f) = fault.Tzif n f
of_zone n (zone.Footer f) = fault.FooterText n f

-- the reader's fault of the file of leap seconds, and that of its lines
abbrev pub of_leap_reader : TzifFault → CheckFault
of_leap_reader tzif.NoMemory = fault.NoMemory
of_leap_reader f = fault.Leap (leap.File f)

abbrev pub of_table : LeapFault → CheckFault
of_table table.NoMemory = fault.NoMemory
of_table (table.Step line) = fault.Leap (leap.Step line)
of_table (table.Midnight line) = fault.Leap (leap.Midnight line)

-- the fault of a manifest's text
abbrev pub of_manifest : ManifestFault → CheckFault
of_manifest manifest.NoMemory = fault.NoMemory
of_manifest f = fault.Manifest f

-- the first fault is judged, and nothing is read, so no read fails
abbrev pub JudgesUnread : {T : Type 0} → Option CheckFault → Result T CheckFault → Type 0
JudgesUnread {T = T} first (Ok x) = IsFirstFault {T = T} fault.NoMemory first (Ok x)
JudgesUnread {T = T} first (Err e) =
    (e ≢ fault.ReadFault) × IsFirstFault {T = T} fault.NoMemory first (Err e)

-- the fault of a folder is that of its manifest's text, unless memory ran out
abbrev pub RefusesText : List ℕ → CheckFault → Type 0
RefusesText text e =
    (e ≢ fault.ReadFault)
    × (e ≢ fault.NoMemory
    → (f : ManifestFault) × (manifest_text_fault text ≡ Some f) × (e ≡ fault.Manifest f))
