-- What the line that syncs a mirror makes of a talk, and what publishing what it states comes to.
use Rattle.std.proofs.Common.{◌≡◌, ◌≢◌, ◌≤◌, ℕ, List, [], ◌∷◌, ◌++◌, length, inl, inr, ◌⊎◌, Option, None, Some, Ok, Err, true, false, refl, sym}
use Rattle.std.proofs.Common.{ap, ◌∙◌, subst, arith}
use Rattle.std.specs.Option.{option_map, IsSomeAnd}
use Rattle.std.proofs.lemmas.Bool.{true≢false}
use Rattle.td_base.specs.Views.{File, LaterStore, StoreFailed, StoreView, file_at}
use Rattle.td_base.specs.Upstreams.{UpstreamView}
use Rattle.catalogue.specs.Histories.{last_release}
use Rattle.catalogue.specs.Holdings.{history_of}
use Rattle.catalogue.specs.Order.{rising_by}
use Rattle.catalogue.specs.Releases.{ReleaseData}
use Rattle.catalogue.specs.declared.holding.Catalogue.{Catalogue}
use Rattle.console.specs.Replies.{reply_text}
use Rattle.console.specs.declared.line.Line.{Line}
use Rattle.console.specs.declared.said.Said.TheVariants as said
use Rattle.installer.specs.Installing.{InstallsStated}
use Rattle.installer.specs.Serving.{FindsWhether, IsServed, IsStated, stated_content, stated_contents, stated_release}
use Rattle.installer.specs.declared.install_fault.InstallFault.{InstallFault}
use Rattle.installer.specs.declared.install_fault.InstallFault.TheVariants as install
use Rattle.mirror.specs.declared.sync_fault.SyncFault.{SyncFault}
use Rattle.release_check.specs.declared.check_fault.CheckFault.TheVariants as fault
use Rattle.release_check.specs.Before.{before_of}
use Rattle.release_check.specs.Folder.{examined_in, release_with}
use Rattle.release_manifest.specs.declared.manifest_type.Manifest.{Manifest}
use Rattle.release_manifest.specs.declared.manifest_type.ManifestZone.{ManifestZone}
use Rattle.subscribers.specs.Hearing.{all_hear}
use Rattle.sync_core.specs.Mirrors.{MirrorState, ZoneFile}
use Rattle.sync_core.specs.Published.{HasFiles, manifest_of}
use Rattle.run_ends.specs.Folders.{IsRefusal}
use Rattle.run_ends.specs.Following.{StatesAfter, StatesLast, SyncsAs, faulted, faulted_starved, installed, refused, settled, starved, unchanged}
use Rattle.td_top.specs.FollowingSteps.{OpensStated, PublishesStated}
use Rattle.run_ends.specs.Feeds.{Grows, following}
use Rattle.td_top.specs.Replies.{SaysFaulted, SaysRefused}
use Rattle.run_ends.specs.Replies.{last_token}
use Rattle.run_ends.specs.Sessions.{AnswersLine, LaterSession}
use Rattle.run_ends.specs.declared.session.Session.{Session}
use Rattle.run_ends.proofs.lemmas.Installing.{no_refusal}
use Rattle.td_top.proofs.lemmas.FeedLemmas.{later_sync}
use Rattle.td_top.proofs.LineLemmas.{is_done}
use Rattle.run_ends.proofs.lemmas.SessionLemmas.{session_refl}

-- ---- a line

pub is_synced : (host : List ℕ) (s t : MirrorState) (old new : UpstreamView) (x y : Session) (asked : Line) (answer : List ℕ)
    → Grows (following host s old) asked → SyncsAs host s t old new (Ok tt) → PublishesStated t x y answer → length y.installer.list ≤ length y.desk.seen
    → AnswersLine (following host s old) (following host t new) x y asked answer
is_synced host s t old new x y asked answer grows h p knows =
    is_done (following host s old) (following host t new) x y asked answer p.joined (later_sync host s t old new (Ok tt) h) p.later
    (grows, refl, settled h p.says) p.grown p.heard knows

pub is_faulted : (host : List ℕ) (s t : MirrorState) (old new : UpstreamView) (x : Session) (e : SyncFault) (asked : Line) (answer : List ℕ)
    → Grows (following host s old) asked → SyncsAs host s t old new (Err e) → SaysFaulted e answer → length x.installer.list ≤ length x.desk.seen
    → AnswersLine (following host s old) (following host t new) x x asked answer
is_faulted host s t old new x e asked answer grows h (inl none) knows =
    is_done (following host s old) (following host t new) x x asked answer None (later_sync host s t old new (Err e) h) (session_refl x)
    (grows, refl, faulted_starved e h none refl) refl refl knows
is_faulted host s t old new x e asked answer grows h (inr why) knows =
    is_done (following host s old) (following host t new) x x asked answer None (later_sync host s t old new (Err e) h) (session_refl x)
    (grows, refl, faulted e h why.0 why.1 refl) refl refl knows

-- ---- files of one mirror

-- stores that have the same files state the same
same_content : (a b : List File) → ((path : List ℕ) → file_at a path ≡ file_at b path) → (z : ManifestZone) → stated_content a z ≡ stated_content b z
same_content a b same z = ap (λ o. option_map (λ bytes. record { tzid = z.tzid; aliases = rising_by (λ a. a) z.aliases; file = bytes }) o) (same z.file)

same_contents : (a b : List File) → ((path : List ℕ) → file_at a path ≡ file_at b path) → (zs : List ManifestZone)
    → stated_contents a zs ≡ stated_contents b zs
same_contents a b same [] = refl
same_contents a b same (z ∷ zs) =
    rw (same_content a b same z, same_contents a b same zs) refl

same_release : (a b : List File) (m : Manifest) → ((path : List ℕ) → file_at a path ≡ file_at b path) → stated_release a m ≡ stated_release b m
same_release a b m same = ap (λ o. option_map (λ contents. release_with m contents None) o) (same_contents a b same m.zones)

served_too : (a b : List File) (m : Manifest) (o : Option ReleaseData) → stated_release a m ≡ stated_release b m → IsSomeAnd o (IsStated a m)
    → IsSomeAnd o (IsStated b m)
served_too a b m None same h = h
served_too a b m (Some r) same h = sym same ∙ h

is_served_by : (a b : List File) (m : Manifest) (H : List ReleaseData) (files : List ZoneFile) → HasFiles a files → HasFiles b files → IsServed a m H
    → IsServed b m H
is_served_by a b m H files has others h = served_too a b m (last_release H) (same_release a b m (λ path. has path ∙ sym (others path))) h

-- ---- what is stated

-- a store in memory, as it is seen
abbrev pub memory : List File → StoreView
memory files = record { files = Some files; faults = 0 }

-- no call changes it
pub same_files : (a b : List File) → LaterStore (memory a) (memory b) → b ≡ a
same_files a b later = cc later.kept

never_fails : (a b : List File) → StoreFailed (memory a) (memory b) → ⊥
never_fails a b failed = omega (arith, failed)

module _ (stored : List File) (m : Manifest) (s : MirrorState) (is : m ≡ manifest_of s) (has : HasFiles stored s.files) (H : List ReleaseData) where
  last_stated : IsServed stored m H → StatesLast H s
  last_stated h = (stored, has, subst (λ n. IsServed stored n H) is h)

  not_last : (IsServed stored m H → ⊥) → StatesLast H s → ⊥
  not_last other h = other (is_served_by h.0 stored m H s.files h.1 has (subst (λ n. IsServed h.0 n H) (sym is) h.2))

  states : (r : ReleaseData) → examined_in stored [] (before_of H) m ≡ Ok r → StatesAfter H s (Ok r)
  states r e = (stored, has, subst (λ n. examined_in stored [] (before_of H) n ≡ Ok r) is e)

  -- why a manifest and its files were not installed
  faults : {A : Type 0} (left : List File) (history : A → List ReleaseData) (e : InstallFault)
      → InstallsStated {A = A} (memory stored) (memory left) m [] H history (Err e) → e ≢ install.NoMemory
      → (e ≢ install.Check fault.ReadFault) × (e ≢ install.Check fault.NoMemory) × IsRefusal e × StatesAfter H s (Err e)
  faults left history install.NoMemory h some = absurd (some refl)
  faults left history (install.Check fault.NoMemory) h some = absurd (h.memory refl)
  faults left history (install.Check fault.ReadFault) h some = absurd (never_fails stored left (h.failed refl))
  faults left history (install.Policy k) h some =
      let barred = h.policy k refl in absurd (cc (sym (no_refusal H barred.release) ∙ barred.refused))
  faults left history (install.Check f) h some = (
    (λ e. cc),
    (λ e. cc),
    ((λ e. cc), (λ e. cc)),
    (stored, has, subst (λ n. examined_in stored [] (before_of H) n ≡ Err f) is (h.told (λ e. cc) (λ e. cc))),
  )

-- ---- publishing

pub not_published : (s : MirrorState) (x : Session) (answer : List ℕ) → answer ≡ reply_text said.NoMemory → PublishesStated s x x answer
not_published s x answer none = record { later = session_refl x; joined = None; says = starved none; grown = refl; heard = refl }

module _ (stored : List File) (m : Manifest) (s : MirrorState) (is : m ≡ manifest_of s) (has : HasFiles stored s.files) (x : Session) where
  abbrev H : List ReleaseData
  H = history_of x.installer.list

  pub is_unchanged : (left : List File) (answer : List ℕ) → FindsWhether (memory stored) (memory left) (λ files. IsServed files m H) (Ok true)
      → answer ≡ reply_text (said.Unchanged (last_token H)) → PublishesStated s x x answer
  is_unchanged left answer h says = record {
    later = session_refl x;
    joined = None;
    says = unchanged (last_stated stored m s is has H (h.told.0 refl)) says;
    grown = refl;
    heard = refl;
  }

  pub differs : (left : List File) → FindsWhether (memory stored) (memory left) (λ files. IsServed files m H) (Ok false) → StatesLast H s → ⊥
  differs left h = not_last stored m s is has H (λ k. true≢false (sym (h.told.1 k)))

  unread : (left : List File) (e : InstallFault) (P : Type 0) → FindsWhether (memory stored) (memory left) (λ files. IsServed files m H) (Err e)
      → e ≢ install.NoMemory → (e ≡ install.NoMemory) ⊎ (e ≡ install.Check fault.ReadFault) → P
  unread left e P h some (inl none) = absurd (some none)
  unread left e P h some (inr read) = absurd (never_fails stored left (h.failed (ap Err read)))

  pub is_not_compared : (left : List File) (e : InstallFault) (answer : List ℕ)
      → FindsWhether (memory stored) (memory left) (λ files. IsServed files m H) (Err e) → SaysRefused e answer → PublishesStated s x x answer
  is_not_compared left e answer h (inl none) = not_published s x answer none
  is_not_compared left e answer h (inr why) = unread left e (PublishesStated s x x answer) h why.0 h.causes

  pub is_joined : {A : Type 0} (left : List File) (y : Session) (answer : List ℕ) (history : A → List ReleaseData) (a : A)
      → InstallsStated (memory stored) (memory left) m [] H history (Ok a) → history a ≡ history_of y.installer.list → (StatesLast H s → ⊥)
      → LaterSession x y → y.installer.subscribers ≡ all_hear (history_of y.installer.list) x.installer.subscribers
      → answer ≡ reply_text (said.Installed (last_token (history_of y.installer.list))) → PublishesStated s x y answer
  is_joined left y answer history a h same other later hears says =
      let now : history_of y.installer.list ≡ H ++ h.told.0 ∷ [] = sym same ∙ h.told.3 in
      record {
        later = later;
        joined = Some h.told.0;
        says = installed h.told.0 other (states stored m s is has H h.told.0 h.told.1)
            (says ∙ ap (λ (K : List ReleaseData). reply_text (said.Installed (last_token K))) now);
        grown = now;
        heard = hears ∙ ap (λ K. all_hear K x.installer.subscribers) now;
      }

  pub is_not_joined : {A : Type 0} (left : List File) (y : Session) (e : InstallFault) (answer : List ℕ) (history : A → List ReleaseData)
      → InstallsStated {A = A} (memory stored) (memory left) m [] H history (Err e) → y.installer.list ≡ x.installer.list → (StatesLast H s → ⊥)
      → LaterSession x y → y.installer.subscribers ≡ x.installer.subscribers → SaysRefused e answer → PublishesStated s x y answer
  is_not_joined left y e answer history h same other later hears (inl none) =
      record { later = later; joined = None; says = starved none; grown = ap history_of same; heard = hears }
  is_not_joined left y e answer history h same other later hears (inr why) =
      let cause = faults stored m s is has H left history e h why.0 in
      record { later = later; joined = None; says = refused e other cause.3 cause.2 why.1; grown = ap history_of same; heard = hears }

-- ---- a first release

module _ (stored : List File) (m : Manifest) (s : MirrorState) (is : m ≡ manifest_of s) (has : HasFiles stored s.files) where
  pub opens : {A : Type 0} (left : List File) (history : A → List ReleaseData) (a : A) (list : List (Catalogue (List ℕ)))
      → InstallsStated (memory stored) (memory left) m [] [] history (Ok a) → history a ≡ history_of list → OpensStated s (Ok list)
  opens left history a list h same = (h.told.0, states stored m s is has [] h.told.0 h.told.1, sym same ∙ h.told.3)
