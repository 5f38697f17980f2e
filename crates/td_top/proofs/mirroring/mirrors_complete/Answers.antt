use Rattle.std.proofs.Common.{◌≡◌, ◌≢◌, ℕ, List, [], ◌∷◌, ◌++◌, Option, Some, Result, Ok, Err, refl, subst}
use Rattle.td_base.specs.DoorViews.{DoorView}
use Rattle.td_base.specs.Upstreams.{IsNewUpstream, UpstreamView}
use Rattle.td_base.specs.Views.{File, Rose}
use Rattle.td_base.specs.declared.upstream.Exchange.{Exchange}
use Rattle.catalogue.specs.Releases.{ReleaseData}
use Rattle.http_client.specs.Requests.{request_text}
use Rattle.installer.specs.declared.install_fault.InstallFault.{InstallFault}
use Rattle.installer.specs.declared.install_fault.InstallFault.TheVariants as install
use Rattle.mirror.specs.Shares.{SyncEnds}
use Rattle.mirror.specs.Understanding.{Means}
use Rattle.mirror.specs.declared.sync_fault.SyncFault.{SyncFault}
use Rattle.mirror.specs.declared.sync_fault.SyncFault.TheVariants as sync
use Rattle.sync_core.specs.Mirrors.{MirrorState, empty_mirror}
use Rattle.sync_core.specs.Published.{HasFiles, manifest_of}
use Rattle.release_check.specs.Before.{before_of}
use Rattle.release_check.specs.Folder.{examined_in}
use Rattle.release_check.specs.declared.check_fault.CheckFault.{CheckFault}
use Rattle.mirror_world.specs.Answers.{IsAnsweredOver}
use Rattle.mirror_world.specs.Settling.{IsSettled, SecondListIsEmpty, SettlesSecond}
use Rattle.installer.specs.Installing.{refusal}
use Rattle.run_ends.specs.Completing.{IsComplete, NoneRose, PrimarySettles, TellsFirst}
use Rattle.run_ends.specs.Following.{StatesAfter, SyncsAs}
use Rattle.run_ends.specs.Outside.{World}
use Rattle.run_ends.specs.Running.Mirroring.{Mirrors}
use Rattle.run_ends.specs.Running.Mirroring as mirroring
use Rattle.run_ends.specs.declared.status.Status.{Status}
use Rattle.run_ends.proofs.lemmas.Completing.{memory, parts_told, never_failed, opened_complete}
use Rattle.td_top.proofs.mirroring.mirrors_complete.Goals as goal

-- that a sync over such exchanges ends well, and that what is then stated passes
abbrev pub SyncsSettle : Type 0
SyncsSettle =
    (host : List ℕ) (t : MirrorState) (taken untaken xs more : List Exchange) (result : Result (Unit {0}) SyncFault) → SecondListIsEmpty Means xs
    → taken ++ untaken ≡ xs ++ more → SyncEnds (request_text host) Means empty_mirror t taken untaken result → IsSettled result

abbrev pub StatedPass : Type 0
StatedPass =
    (host : List ℕ) (t : MirrorState) (taken untaken xs more : List Exchange) (files : List File) (result : Result (Unit {0}) SyncFault)
    → SettlesSecond IsAnsweredOver xs → taken ++ untaken ≡ xs ++ more → SyncEnds (request_text host) Means empty_mirror t taken untaken result
    → result ≡ Ok tt → HasFiles files t.files → (r : ReleaseData) × (examined_in files [] (before_of []) (manifest_of t) ≡ Ok r)

not_both : (r : ReleaseData) (f : CheckFault) (is : Result ReleaseData CheckFault) → is ≡ Ok r → is ≡ Err f → ⊥
not_both r f is good bad = cc

module _ (settle : SyncsSettle) (pass : StatedPass) (upstream : List ℕ) (first last : UpstreamView) (xs : List Exchange) (k : TellsFirst (Some last) xs)
    (over : SettlesSecond IsAnsweredOver xs) (new : IsNewUpstream first) (none : last.faults ≡ 0) where
  never_refused : (s : MirrorState) (e : InstallFault) → SyncsAs upstream empty_mirror s first last (Ok tt) → StatesAfter [] s (Err e) → ⊥
  never_refused s install.NoMemory h stated = stated
  never_refused s (install.Policy rule) h stated = stated
  never_refused s (install.Check f) h stated =
      let r = pass upstream s h.taken h.untaken xs k.more stated.0 (Ok tt) over
      (parts_told first last xs (h.taken ++ h.untaken) k new h.told) h.ends refl stated.1 in
      not_both r.0 f (examined_in stated.0 [] (before_of []) (manifest_of s)) r.1 stated.2

  never_faulted : (s : MirrorState) (e : SyncFault) → SyncsAs upstream empty_mirror s first last (Err e) → e ≢ sync.NoMemory → ⊥
  never_faulted s e h known =
      by e h known
      (settle upstream s h.taken h.untaken xs k.more (Err e) over.empty (parts_told first last xs (h.taken ++ h.untaken) k new h.told) h.ends)
    where
      by : (f : SyncFault) → SyncsAs upstream empty_mirror s first last (Err f) → f ≢ sync.NoMemory → IsSettled (Err f) → ⊥
      by sync.NoMemory g some is = some refl
      by sync.UpstreamFault g some is = never_failed first last new none (g.failed refl)
      by (sync.BadAnswer n place bytes) g some is = is
      by (sync.Refused n number) g some is = is
      by (sync.NotSettled n) g some is = is

ends_complete : SyncsSettle → StatedPass → (address : List ℕ) (workers : ℕ) (upstream : List ℕ) (before after : World) (doors : List DoorView)
    (up : Option UpstreamView) (is : Status) → Mirrors address workers upstream before after doors up is → NoneRose before after doors up
    → PrimarySettles IsAnsweredOver up → IsComplete is
ends_complete settle pass address workers upstream before after doors up is
    (mirroring.opened reached first ready last s t r history ds end reaches syncs states ends follows) none k =
    opened_complete _ address workers (r ∷ []) _ _ history doors is ends none.input none.output
    (λ rose. none.network (subst (λ n. Rose n after.network.faults) reaches.steady rose)) none.spawner none.served
ends_complete settle pass address workers upstream before after doors up is (mirroring.refused first last s e end reaches syncs states refusal printed) none k =
    absurd (never_refused settle pass upstream first last k.exchanges k.first k.settles reaches.new none.followed s e syncs states)
ends_complete settle pass address workers upstream before after doors up is (mirroring.not_synced first last s e end reaches syncs some printed) none k =
    absurd (never_faulted settle pass upstream first last k.exchanges k.first k.settles reaches.new none.followed s e syncs some)
ends_complete settle pass address workers upstream before after doors up is (mirroring.unreached left called rose spawner) none k =
    absurd (none.network rose)
ends_complete settle pass address workers upstream before after doors up is (mirroring.out_of_memory u) none k = memory

pub returns : goal.returns
returns c = λ address workers upstream before after doors up is h none k.
    ends_complete c.syncs_settle.ensures.ends c.settled_mirrors_pass.ensures address workers upstream before after doors up is h.0 none k
