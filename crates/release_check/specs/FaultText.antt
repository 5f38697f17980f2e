-- How the faults of a folder are printed: number, name and values, with a space between them.
use Rattle.std.specs.Prelude.{ℕ, List, [], ◌++◌, codes, decimal, if◌then◌else◌}
use Rattle.std.specs.Str.{is_utf8}
use Rattle.td_civil.specs.Bounds.{has_meaning}
use Rattle.td_civil.specs.Calendar.{text_of}
use Rattle.td_civil.specs.declared.moment_type.Moment.{Moment}
use Rattle.release_manifest.specs.FaultText.{fault_text as manifest_text}
use Rattle.tzif_reader.specs.FaultText.{fault_text as tzif_text}
use Rattle.posix_footer.specs.FaultText.{fault_text as footer_text}
use Rattle.release_check.specs.declared.check_fault.Limited.{Limited}
use Rattle.release_check.specs.declared.check_fault.Limited.TheVariants as limited
use Rattle.release_check.specs.declared.check_fault.LeapFileFault.{LeapFileFault}
use Rattle.release_check.specs.declared.check_fault.LeapFileFault.TheVariants as leap
use Rattle.release_check.specs.declared.check_fault.CheckFault.{CheckFault}
use Rattle.release_check.specs.declared.check_fault.CheckFault.TheVariants as fault

abbrev pub limited_text : Limited → List ℕ
limited_text limited.Zones = codes "Zones"
limited_text limited.Names = codes "Names"

abbrev pub leap_text : LeapFileFault → List ℕ
leap_text (leap.Step line) = codes "1 Step " ++ decimal line
leap_text (leap.Midnight line) = codes "2 Midnight " ++ decimal line
leap_text (leap.File f) = codes "3 File " ++ tzif_text f

-- the text of a moment, or nothing where it has no meaning; a stamp always has one
unfoldable pub stamp_text : Moment → List ℕ
stamp_text m = if has_meaning m.seconds then text_of m.seconds else []

abbrev pub fault_text : CheckFault → List ℕ
fault_text fault.NoMemory = codes "0 NoMemory"
fault_text (fault.Manifest f) = codes "1 Manifest " ++ manifest_text f
fault_text (fault.Limit which count) =
    codes "2 Limit " ++ limited_text which ++ codes " " ++ decimal count
fault_text (fault.StampBack old new) =
    codes "3 StampBack " ++ stamp_text old ++ codes " " ++ stamp_text new
fault_text (fault.Identifier zone) = codes "4 Identifier " ++ decimal zone
fault_text (fault.Duplicate name) = codes "5 Duplicate " ++ name
fault_text (fault.Drops name) = codes "6 Drops " ++ name
fault_text fault.HistoryFull = codes "7 HistoryFull"
fault_text (fault.Absent path) = codes "8 Absent " ++ path
fault_text fault.ReadFault = codes "9 ReadFault"
fault_text (fault.Tzif zone f) = codes "10 Tzif " ++ decimal zone ++ codes " " ++ tzif_text f
fault_text (fault.LeapsInZone zone) = codes "11 LeapsInZone " ++ decimal zone
fault_text (fault.FooterText zone f) =
    codes "12 FooterText " ++ decimal zone ++ codes " " ++ footer_text f
fault_text (fault.FooterDisagrees zone) = codes "13 FooterDisagrees " ++ decimal zone
fault_text (fault.NameBeyond zone) = codes "14 NameBeyond " ++ decimal zone
fault_text (fault.RuleBeyond zone) = codes "15 RuleBeyond " ++ decimal zone
fault_text (fault.Leap f) = codes "16 Leap " ++ leap_text f

-- the text that bytes are, or nothing where they are not UTF-8
unfoldable pub readable : List ℕ → List ℕ
readable bytes = if is_utf8 bytes then bytes else []

-- the same as text, without a name or a path that is not UTF-8
abbrev pub shown_text : CheckFault → List ℕ
shown_text (fault.Duplicate name) = codes "5 Duplicate " ++ readable name
shown_text (fault.Drops name) = codes "6 Drops " ++ readable name
shown_text (fault.Absent path) = codes "8 Absent " ++ readable path
shown_text f = fault_text f
