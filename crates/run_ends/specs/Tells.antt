-- What the calls below a run come to.
use Rattle.std.specs.Prelude.{◌≡◌, ℕ, List, Option, None, Some, ◌⊎◌, ℤ}
use Rattle.td_base.specs.Views.{LaterSink, LaterSource, SinkView, SourceView, StoreView}
use Rattle.td_base.specs.declared.report.End.{End}
use Rattle.catalogue.specs.Releases.{ReleaseData}
use Rattle.release_check.specs.declared.check_fault.CheckFault.TheVariants as fault
use Rattle.installer.specs.FaultText.{fault_text as install_text}
use Rattle.installer.specs.declared.install_fault.InstallFault.{InstallFault}
use Rattle.installer.specs.declared.install_fault.InstallFault.TheVariants as install
use Rattle.mirror.specs.FaultText.{fault_text as sync_text}
use Rattle.mirror.specs.declared.sync_fault.SyncFault.{SyncFault}
use Rattle.mirror.specs.declared.sync_fault.SyncFault.TheVariants as sync
use Rattle.zone_meaning.specs.Faults.{zone_fault}
use Rattle.zone_meaning.specs.FaultText.{fault_text as zone_text}
use Rattle.zone_meaning.specs.State.{zone_state}
use Rattle.zone_meaning.specs.declared.zone_fault.ZoneFault.{ZoneFault}
use Rattle.run_ends.specs.Outside.{outside}
use Rattle.run_ends.specs.Printing.{Printed, refused_line}
use Rattle.run_ends.specs.Running.Answering.{ServesStreams, end_status}
use Rattle.run_ends.specs.Running.StateLine.{state_line}
use Rattle.run_ends.specs.declared.status.Status.{Status}
use Rattle.run_ends.specs.declared.status.Status.TheVariants as status

-- the input and the output were served, and nothing else was done to them than calls do; the store
-- has no part in it
pub record ServesLater (H : List ReleaseData) (i j : SourceView) (old new : SinkView) (end : End)
    : Type 0 where
  pub serves : (s t : StoreView) → ServesStreams H (outside s i old) (outside t j new) end
  pub input : LaterSource i j
  pub output : LaterSink old new

-- the input and the output were served over a history, or memory ran out before
abbrev pub ServesLast : List ReleaseData → SourceView → SourceView → SinkView → SinkView → Status
    → Type 0
ServesLast H i j old new end =
    ((how : End) × (end ≡ end_status how) × ServesLater H i j old new how)
    ⊎ ((end ≡ status.NoMemory) × ((j ≡ i) × (new ≡ old)))

-- a refusal may end a run with this status
abbrev pub CanRefuse : Status → Type 0
CanRefuse called = (called ≡ status.Refused) ⊎ (called ≡ status.NotSynced)

-- a text that may end a run with this status
abbrev pub CanPrint : Status → Type 0
CanPrint called = (called ≡ status.Done) ⊎ ((called ≡ status.Usage) ⊎ CanRefuse called)

-- the output is left alone
abbrev pub IsLeft : SinkView → SinkView → Status → Status → Type 0
IsLeft old new end is = (end ≡ is) × (new ≡ old)

-- a text that is called for is printed, or memory ran out before
abbrev pub Tells : Status → List ℕ → SinkView → SinkView → Status → Type 0
Tells called text old new end = Printed called text old new end ⊎ IsLeft old new end status.NoMemory

-- something is refused for this reason
abbrev pub TellsRefused : List ℕ → SinkView → SinkView → Status → Type 0
TellsRefused why old new end = Tells status.Refused (refused_line why) old new end

-- a folder that was not installed ends a run
abbrev pub RefusesInstall : InstallFault → SinkView → SinkView → Status → Type 0
RefusesInstall install.NoMemory old new end = IsLeft old new end status.NoMemory
RefusesInstall (install.Check fault.ReadFault) old new end = IsLeft old new end status.NotRead
RefusesInstall f old new end = TellsRefused (install_text f) old new end

-- a first sync that ended by a fault ends a run
abbrev pub RefusesSync : SyncFault → SinkView → SinkView → Status → Type 0
RefusesSync sync.NoMemory old new end = IsLeft old new end status.NoMemory
RefusesSync f old new end = Tells status.NotSynced (refused_line (sync_text f)) old new end

-- the state of a zone file ends a run, or the file's fault does
abbrev pub ShowsBy : List ℕ → ℤ → Option ZoneFault → SinkView → SinkView → Status → Type 0
ShowsBy bytes m None old new end = Tells status.Done (state_line (zone_state bytes m)) old new end
ShowsBy bytes m (Some f) old new end = TellsRefused (zone_text f) old new end

abbrev pub Shows : List ℕ → ℤ → SinkView → SinkView → Status → Type 0
Shows bytes m old new end = ShowsBy bytes m (zone_fault bytes) old new end
