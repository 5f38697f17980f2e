-- How runs end, by what is equal.
use Rattle.std.proofs.Common.{◌≡◌, ◌≢◌, List, ℕ, refl, subst}
use Rattle.td_base.specs.Views.{SinkView}
use Rattle.installer.specs.FaultText.{fault_text}
use Rattle.installer.specs.declared.install_fault.InstallFault.{InstallFault}
use Rattle.installer.specs.declared.install_fault.InstallFault.TheVariants as install
use Rattle.release_check.specs.declared.check_fault.CheckFault.TheVariants as fault
use Rattle.mirror.specs.FaultText.{fault_text as sync_text}
use Rattle.mirror.specs.declared.sync_fault.SyncFault.{SyncFault}
use Rattle.mirror.specs.declared.sync_fault.SyncFault.TheVariants as sync
use Rattle.run_ends.specs.Printing.{refused_line}
use Rattle.run_ends.specs.Tells.{RefusesInstall, RefusesSync, Tells, TellsRefused}
use Rattle.run_ends.specs.declared.status.Status.{Status}
use Rattle.run_ends.specs.declared.status.Status.TheVariants as status

-- what was not installed ends a run by its text, unless memory or a read failed
pub refuses_told : (f : InstallFault) (old new : SinkView) (end : Status) → f ≢ install.NoMemory → f ≢ install.Check fault.ReadFault
    → TellsRefused (fault_text f) old new end → RefusesInstall f old new end
refuses_told install.NoMemory old new end memory read tells = absurd (memory refl)
refuses_told (install.Check fault.ReadFault) old new end memory read tells = absurd (read refl)
refuses_told f old new end memory read tells = tells

-- a sync that ended by a fault ends a run by its text, unless memory ran out
pub refuses_synced : (f : SyncFault) (old new : SinkView) (end : Status) → f ≢ sync.NoMemory
    → Tells status.NotSynced (refused_line (sync_text f)) old new end → RefusesSync f old new end
refuses_synced sync.NoMemory old new end memory tells = absurd (memory refl)
refuses_synced f old new end memory tells = tells

-- a reason that is another
pub refuses_as : (why other : List ℕ) (old new : SinkView) (end : Status) → why ≡ other → TellsRefused why old new end → TellsRefused other old new end
refuses_as why other old new end same h = subst (λ (text : List ℕ). TellsRefused text old new end) same h
