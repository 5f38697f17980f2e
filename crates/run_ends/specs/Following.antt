-- A mirror that follows another server: what it states to be served, and what `sync` gets said.
use Rattle.std.specs.Prelude.{◌≡◌, ◌≢◌, ◌≤◌, ℕ, List, [], ◌∷◌, ◌++◌, Option, None}
use Rattle.std.specs.Prelude.{Some, Result, Ok, Err}
use Rattle.td_base.specs.Views.{File}
use Rattle.td_base.specs.Upstreams.{TellsMore, UpstreamView}
use Rattle.td_base.specs.declared.upstream.Exchange.{Exchange}
use Rattle.catalogue.specs.Releases.{ReleaseData}
use Rattle.console.specs.Replies.{reply_text}
use Rattle.console.specs.declared.said.Said.TheVariants as said
use Rattle.http_client.specs.Requests.{request_text}
use Rattle.installer.specs.FaultText.{fault_text}
use Rattle.installer.specs.Serving.{IsServed}
use Rattle.installer.specs.declared.install_fault.InstallFault.{InstallFault}
use Rattle.installer.specs.declared.install_fault.InstallFault.TheVariants as install
use Rattle.mirror.specs.FaultText.{fault_text as sync_text}
use Rattle.mirror.specs.Shares.{Syncs}
use Rattle.mirror.specs.Understanding.{Means}
use Rattle.mirror.specs.declared.sync_fault.SyncFault.{SyncFault}
use Rattle.mirror.specs.declared.sync_fault.SyncFault.TheVariants as sync
use Rattle.release_check.specs.Before.{before_of}
use Rattle.release_check.specs.Folder.{examined_in}
use Rattle.sync_core.specs.Mirrors.{MirrorState}
use Rattle.sync_core.specs.Published.{HasFiles, manifest_of}
use Rattle.run_ends.specs.Folders.{IsRefusal}
use Rattle.run_ends.specs.Replies.{last_token}

-- any calls were made: what is told was told before, and no count of faults fell
pub record LaterUpstream (old new : UpstreamView) : Type 0 where
  pub exchanges : List Exchange
  pub told : TellsMore old.told new.told exchanges
  pub faults : old.faults ≤ new.faults

-- the mirror asks as this host
abbrev pub SyncsAs : List ℕ → MirrorState → MirrorState → UpstreamView → UpstreamView
    → Result (Unit {0}) SyncFault → Type 0
SyncsAs host s t old new result = Syncs (request_text host) Means s t old new result

-- ---- what a mirror states

-- What the mirror states comes after these releases, as a release or with a fault: a manifest of
-- the zones that it knows, and the files that it got. No rule is asked of it.
abbrev pub StatesAfter : List ReleaseData → MirrorState → Result ReleaseData InstallFault → Type 0
StatesAfter H s (Ok r) =
    (files : List File) × HasFiles files s.files
    × (examined_in files [] (before_of H) (manifest_of s) ≡ Ok r)
StatesAfter H s (Err install.NoMemory) = ⊥
StatesAfter H s (Err (install.Policy k)) = ⊥
StatesAfter H s (Err (install.Check f)) =
    (files : List File) × HasFiles files s.files
    × (examined_in files [] (before_of H) (manifest_of s) ≡ Err f)

-- what the mirror states is the last of these releases
abbrev pub StatesLast : List ReleaseData → MirrorState → Type 0
StatesLast H s =
    (files : List File) × HasFiles files s.files × IsServed files (manifest_of s) H

-- what is said of what the mirror states, after these releases, and the release that joins them, if
-- one does
pub data SaysStated (s : MirrorState) (H : List ReleaseData) (answer : List ℕ)
    : Option ReleaseData → Type 0 where
  -- it is another release than the last
  installed : (r : ReleaseData) → (StatesLast H s → ⊥) → StatesAfter H s (Ok r)
      → answer ≡ reply_text (said.Installed (last_token (H ++ r ∷ [])))
      → SaysStated s H answer (Some r)
  -- it is the last
  unchanged : StatesLast H s → answer ≡ reply_text (said.Unchanged (last_token H))
      → SaysStated s H answer None
  refused : (e : InstallFault) → (StatesLast H s → ⊥) → StatesAfter H s (Err e) → IsRefusal e
      → answer ≡ reply_text (said.Refused (fault_text e)) → SaysStated s H answer None
  -- memory ran out
  starved : answer ≡ reply_text said.NoMemory → SaysStated s H answer None

-- ---- a line

-- what `sync` gets said after these releases, and the release that joins them, if one does
pub data SyncsMirror (host : List ℕ) (s t : MirrorState) (old new : UpstreamView)
    (H : List ReleaseData) (answer : List ℕ) (joined : Option ReleaseData) : Type 0 where
  -- the mirror is settled
  settled : SyncsAs host s t old new (Ok tt) → SaysStated t H answer joined
      → SyncsMirror host s t old new H answer joined
  -- the sync ended by a fault
  faulted : (e : SyncFault) → SyncsAs host s t old new (Err e) → e ≢ sync.NoMemory
      → answer ≡ reply_text (said.Refused (sync_text e)) → joined ≡ None
      → SyncsMirror host s t old new H answer joined
  -- memory ran out, be it to tell the fault
  faulted_starved : (e : SyncFault) → SyncsAs host s t old new (Err e)
      → answer ≡ reply_text said.NoMemory → joined ≡ None
      → SyncsMirror host s t old new H answer joined
