-- What the line that installs a folder makes of a talk.
use Rattle.std.proofs.Common.{◌≡◌, ◌≢◌, ℕ, ◌≤◌, List, length, inl, inr, Option, None, Some, Ok, Err, refl, sym, ap, ◌∙◌, subst}
use Rattle.admission.specs.declared.rules.Chosen.{Chosen}
use Rattle.td_base.specs.Views.{LaterStore, StoreView}
use Rattle.catalogue.specs.Holdings.{history_of}
use Rattle.catalogue.specs.Releases.{ReleaseData}
use Rattle.console.specs.Replies.{reply_text}
use Rattle.console.specs.declared.line.Line.{Line}
use Rattle.console.specs.declared.said.Said.TheVariants as said
use Rattle.installer.specs.FaultText.{fault_text}
use Rattle.installer.specs.Installing.{GrowsBy, Installs}
use Rattle.installer.specs.declared.install_fault.InstallFault.{InstallFault}
use Rattle.installer.specs.declared.install_fault.InstallFault.TheVariants as install
use Rattle.release_check.specs.declared.check_fault.CheckFault.TheVariants as fault
use Rattle.subscribers.specs.Hearing.{all_hear}
use Rattle.run_ends.specs.Folders.{InstallsFolder, installed, refused, starved, unread}
use Rattle.run_ends.specs.Feeds.{AsksFolder, folders}
use Rattle.td_top.specs.Replies.{SaysRefused}
use Rattle.run_ends.specs.Replies.{last_token}
use Rattle.run_ends.specs.Sessions.{AnswersLine, LaterSession}
use Rattle.run_ends.specs.Operator.{heard_by, with_joined}
use Rattle.run_ends.specs.declared.session.Session.{Session}
use Rattle.run_ends.proofs.lemmas.Installing.{gives, gives_fault}
use Rattle.td_top.proofs.LineLemmas.{is_done}

-- a folder was looked into
looked : (rules : List Chosen) (s t : StoreView) (old new : Session) (asked : Line) (dir answer : List ℕ) (joined : Option ReleaseData)
    → AsksFolder asked dir → LaterStore s t → InstallsFolder s t rules (history_of old.installer.list) dir answer joined → LaterSession old new
    → history_of new.installer.list ≡ with_joined (history_of old.installer.list) joined
    → new.installer.subscribers ≡ heard_by old.installer.subscribers (history_of old.installer.list) joined
    → length new.installer.list ≤ length new.desk.seen → AnswersLine (folders rules s) (folders rules t) old new asked answer
looked rules s t old new asked dir answer joined asks store installs later grows hears knows =
    is_done (folders rules s) (folders rules t) old new asked answer joined (refl, store) later
    (dir, asks, refl, store, installs) grows hears knows

-- a release joined the history
pub is_installed : {A : Type 0} (rules : List Chosen) (s t : StoreView) (old new : Session) (asked : Line) (dir answer : List ℕ)
    (history : A → List ReleaseData) (a : A) → AsksFolder asked dir → Installs s t dir rules (history_of old.installer.list) history (Ok a)
    → history a ≡ history_of new.installer.list → GrowsBy rules (history_of old.installer.list) (history_of new.installer.list)
    → new.installer.subscribers ≡ all_hear (history_of new.installer.list) old.installer.subscribers
    → LaterSession old new → length new.installer.list ≤ length new.desk.seen
    → answer ≡ reply_text (said.Installed (last_token (history_of new.installer.list)))
    → AnswersLine (folders rules s) (folders rules t) old new asked answer
is_installed rules s t old new asked dir answer history a asks installs same grows hears later knows said_is =
    let H : List ReleaseData = history_of old.installer.list in
    looked rules s t old new asked dir answer (Some grows.release) asks installs.later
    (installed grows.release (gives s t dir rules H history a grows.release (same ∙ grows.now_is) grows.allowed installs)
    (said_is ∙ ap (λ (K : List ReleaseData). reply_text (said.Installed (last_token K))) grows.now_is))
    later grows.now_is (hears ∙ ap (λ K. all_hear K old.installer.subscribers) grows.now_is) knows

-- why a folder was not installed
why : {A : Type 0} (s t : StoreView) (rules : List Chosen) (H : List ReleaseData) (dir : List ℕ) (e : InstallFault) (history : A → List ReleaseData)
    → Installs {A = A} s t dir rules H history (Err e) → e ≢ install.NoMemory
    → InstallsFolder s t rules H dir (reply_text (said.Refused (fault_text e))) None
why s t rules H dir install.NoMemory history installs memory = absurd (memory refl)
why s t rules H dir (install.Check fault.NoMemory) history installs memory = absurd (installs.memory refl)
why s t rules H dir (install.Check fault.ReadFault) history installs memory = unread (installs.failed refl) refl
why s t rules H dir (install.Check f) history installs memory =
    refused (install.Check f) (gives_fault s t dir rules H history (install.Check f) installs) ((λ e. cc), (λ e. cc)) refl
why s t rules H dir (install.Policy k) history installs memory =
    refused (install.Policy k) (gives_fault s t dir rules H history (install.Policy k) installs) tt refl

not_installed : {A : Type 0} (s t : StoreView) (rules : List Chosen) (H : List ReleaseData) (dir : List ℕ) (e : InstallFault) (answer : List ℕ)
    (history : A → List ReleaseData) → Installs {A = A} s t dir rules H history (Err e) → SaysRefused e answer → InstallsFolder s t rules H dir answer None
not_installed s t rules H dir e answer history installs (inl none) = starved none
not_installed s t rules H dir e answer history installs (inr said_so) =
    subst (λ a. InstallsFolder s t rules H dir a None) (sym said_so.1) (why s t rules H dir e history installs said_so.0)

pub is_refused : {A : Type 0} (rules : List Chosen) (s t : StoreView) (old new : Session) (asked : Line) (dir : List ℕ) (e : InstallFault) (answer : List ℕ)
    (history : A → List ReleaseData) → AsksFolder asked dir → Installs {A = A} s t dir rules (history_of old.installer.list) history (Err e)
    → new.installer.list ≡ old.installer.list → new.installer.subscribers ≡ old.installer.subscribers
    → LaterSession old new → length new.installer.list ≤ length new.desk.seen → SaysRefused e answer
    → AnswersLine (folders rules s) (folders rules t) old new asked answer
is_refused rules s t old new asked dir e answer history asks installs same hears later knows says =
    looked rules s t old new asked dir answer None asks installs.later
    (not_installed s t rules (history_of old.installer.list) dir e answer history installs says) later (ap history_of same) hears knows
