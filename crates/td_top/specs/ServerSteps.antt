-- What the calls below a server's run come to.
use Rattle.std.specs.Prelude.{◌≡◌, ℕ, ◌≤◌, List, [], length, ◌⊎◌}
use Rattle.std.specs.List.{list_any}
use mathlib.Core.List.{IsPrefix}
use Rattle.td_base.specs.DoorViews.{DoorView, NetworkView}
use Rattle.td_base.specs.declared.report.Role.{Role}
use Rattle.catalogue.specs.Histories.{IsHistory}
use Rattle.catalogue.specs.Releases.{ReleaseData}
use Rattle.connection.specs.DoorWorks.{WorkView}
use Rattle.connection.specs.declared.door_work.DoorDone.{DoorDone}
use Rattle.catalogue.specs.Holdings.{history_of}
use Rattle.run_ends.specs.Running.Server.{OpenedEnds, OpensDoors, status_for}
use Rattle.run_ends.specs.Site.{ConsoleView, LaterSite, SiteView, site}
use Rattle.td_top.specs.Works.{AreWorks, Learnt}
use Rattle.run_ends.specs.declared.session.Session.{Session}
use Rattle.run_ends.specs.declared.status.Status.{Status}
use Rattle.run_ends.specs.declared.status.Status.TheVariants as status
use Rattle.run_ends.specs.declared.talk_end.TalkEnd.{TalkEnd}
use Rattle.zone_meaning.specs.Sound.{IsSound}

-- every desk learnt all that was published, each release of which may follow those before it, and
-- the doors are those of the workers
pub record LearntAll {D C : Type 0} (session : Session) (dones : List (DoorDone D C))
    (end : TalkEnd) (doors : List D) (is : Status) : Type 0 where
  pub fits : IsHistory IsSound (history_of session.installer.list)
  pub seen : IsPrefix session.desk.seen session.installer.list
  pub workers : Learnt session.installer.list dones doors (list_any (λ d. d.worn) dones)
  pub ending : is ≡ status_for end (list_any (λ d. d.worn) dones)

-- the end of a server's history, after the talk and the works: or memory ran out
abbrev pub Concludes : {D C : Type 0} → Session → List (DoorDone D C) → TalkEnd → List D → Status
    → Type 0
Concludes session dones end doors is =
    LearntAll session dones end doors is ⊎ ((is ≡ status.NoMemory) × (doors ≡ []))

-- the doors of an address were served by such a server, after an opening
pub record ServesOpened (server : Role) (address : List ℕ) (workers : ℕ)
    (opening : List ReleaseData) (before after : SiteView) (doors : List DoorView) (is : Status)
    : Type 0 where
  pub later : LaterSite before after
  pub history : List ReleaseData
  pub ends : OpenedEnds server address workers opening before after history doors is

-- doors were served beside a talk over a session: whatever call of the network gave them, this is
-- how serving them as any server ended
pub record ServesBeside (session : Session) (works : List WorkView) (before after : ConsoleView)
    (refusals refusals' : ℕ) (doors : List DoorView) (is : Status) : Type 0 where
  pub serves : (server : Role) (address : List ℕ) (workers : ℕ) (given : List DoorView)
      (asked called : NetworkView) → OpensDoors asked called address workers given
      → asked.faults ≤ called.faults
      → AreWorks server session.installer.pair (length session.installer.list) given works
      → ServesOpened server address workers (history_of session.installer.list)
      (site before asked refusals) (site after called refusals') doors is
