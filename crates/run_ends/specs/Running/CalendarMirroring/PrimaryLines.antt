-- What is printed of the calendars of a primary: the lines of its zones, by their files alone.
use Rattle.std.specs.Prelude.{◌≡◌, ◌≤◌, ℕ, List, ◌++◌, length, take, ℤ}
use Rattle.std.specs.List.{flat_map}
use Rattle.td_base.specs.Transfer.{WritesAll}
use Rattle.td_base.specs.Views.{SinkView}
use Rattle.td_base.specs.declared.transfer.Written.{Written}
use Rattle.td_base.specs.declared.transfer.Written.TheVariants as written
use Rattle.td_base.specs.declared.upstream.Exchange.{Exchange}
use Rattle.catalogue.specs.Histories.{IsHistory}
use Rattle.catalogue.specs.Lookups.{zones_of}
use Rattle.catalogue.specs.Releases.{ContentData, ReleaseData}
use Rattle.zone_meaning.specs.Observed.{observed}
use Rattle.zone_meaning.specs.Sound.{IsSound}
use Rattle.zone_meaning.specs.State.{zone_state}
use Rattle.sync_core.specs.Mirrors.{MirrorState}
use Rattle.calendar_mirror.specs.Judging.{MeansSound}
use Rattle.sync_world.specs.Worlds.{SyncWorld, WorldStep, world_begun}
use Rattle.mirror_world.specs.Logs.{Logs}
use Rattle.calendar_world.specs.Endings.{HoldsAt, IsCalendarAnsweredOver}
use Rattle.run_ends.specs.Running.CalendarMirroring.ObservanceLines.{observance_line, zone_line}
use Rattle.run_ends.specs.declared.status.Status.{Status}
use Rattle.run_ends.specs.declared.status.Status.TheVariants as status

-- the lines of a zone: its own, and one for each observance of the range that its file tells
abbrev pub lines_of_zone : ℤ → ℤ → ContentData → List ℕ
lines_of_zone start end c =
    zone_line c.tzid ++ flat_map observance_line (observed (zone_state c.file) start end)

-- the lines of some zones, in their order
abbrev pub lines_of_zones : ℤ → ℤ → List ContentData → List ℕ
lines_of_zones start end zones = flat_map (lines_of_zone start end) zones

-- the lines of the first of some zones were printed
pub record PrintsFirst (zones : List ContentData) (start end : ℤ) (old new : SinkView)
    (how : Written) : Type 0 where
  pub first : List ContentData
  pub rest : List ContentData
  pub parts : zones ≡ first ++ rest
  pub writes : WritesAll old new (lines_of_zones start end first) how

-- The lines of all zones were printed, or a failed write cut those of the first, or memory ran out
-- after those of the first.
abbrev pub PrintsZones : List ContentData → ℤ → ℤ → SinkView → SinkView → Status → Type 0
PrintsZones zones start end old new status.Done =
    WritesAll old new (lines_of_zones start end zones) written.Whole
PrintsZones zones start end old new status.NotWritten =
    PrintsFirst zones start end old new written.Cut
PrintsZones zones start end old new status.NoMemory =
    PrintsFirst zones start end old new written.Whole
PrintsZones zones start end old new is = ⊥

-- a sync that took the answers of these exchanges came to the calendars of one of these releases,
-- that which the last exchange was answered over, and what was printed are the lines of its zones,
-- which rise by identifier
pub record PrintsPlace (H : List ReleaseData) (taken : List Exchange) (s : MirrorState)
    (start end : ℤ) (old new : SinkView) (is : Status) : Type 0 where
  pub place : ℕ
  pub holds : HoldsAt H place taken s
  pub prints : PrintsZones (zones_of (take place H)) start end old new is

-- in every world of a primary whose answers are those that were taken, the lines of one of its
-- releases were printed
abbrev pub PrintsPrimary : List Exchange → MirrorState → ℤ → ℤ → SinkView → SinkView → Status
    → Type 0
PrintsPrimary taken s start end old new is =
    (H : List ReleaseData) (steps : List WorldStep) (w : SyncWorld) → IsHistory IsSound H
    → 1 ≤ length H → Logs IsSound IsCalendarAnsweredOver MeansSound (world_begun H) steps taken w
    → PrintsPlace w.history taken s start end old new is
