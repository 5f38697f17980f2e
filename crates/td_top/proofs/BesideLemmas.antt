-- What serving doors beside a talk comes to, by how the pool of workers ended.
use Rattle.std.proofs.Common.{◌≡◌, ℕ, ◌≤◌, List, [], length, map, inl, inr, All, Some, refl, sym, subst}
use Rattle.std.specs.List.{list_any}
use Rattle.td_base.specs.Views.{Rose}
use Rattle.td_base.specs.DoorViews.{DoorView, NetworkView}
use Rattle.td_base.specs.declared.report.Role.{Role}
use Rattle.connection.specs.DoorWorks.{WorkView}
use Rattle.connection.specs.declared.door_work.DoorDone.{DoorDone}
use Rattle.desk_pool.specs.Pool.{DoesEach}
use Rattle.catalogue.specs.Holdings.{history_of}
use Rattle.td_top.specs.ConsoleBeside.{BesideView, Halted, Ran}
use Rattle.run_ends.specs.Running.Server.{OpenedEnds, OpensDoors, ServesDoors, not_started, out_of_memory, served}
use Rattle.td_top.specs.ServerSteps.{Concludes, ServesBeside, ServesOpened}
use Rattle.run_ends.specs.Site.{ConsoleView, LaterConsole, LaterSite, site}
use Rattle.run_ends.specs.Talking.{ComesTo, Scene, Talked}
use Rattle.td_top.specs.Works.{AreWorks, HasWorks}
use Rattle.run_ends.specs.declared.session.Session.{Session}
use Rattle.run_ends.specs.declared.status.Status.{Status}
use Rattle.run_ends.specs.declared.status.Status.TheVariants as status
use Rattle.run_ends.specs.declared.talk_end.TalkEnd.{TalkEnd}
use Rattle.td_top.proofs.OpenedLemmas.{console_refl, given_up}
use Rattle.catalogue.proofs.lemmas.HistoryLemmas.{history_length}
use Rattle.td_top.proofs.ServerLemmas.{Does, all_served, came, comes_later, operated, same_pairs}

module _ {D : Type 0} (seen : D → DoorView) where
  -- a worker was not started, so that the talk was not begun
  pub beside_unstarted : (before now : BesideView) (works : List WorkView) (r q : ℕ) (doors : List D) (is : Status) → Halted before now
      → Rose r q → r ≤ q → is ≡ status.NotStarted → doors ≡ []
      → ServesBeside before.scene.session works before.scene.console now.scene.console r q (map seen doors) is
  beside_unstarted before now works r q doors is halted rose later e none =
      let o = before.scene.console in
      subst (λ v. ServesBeside before.scene.session works o v.scene.console r q (map seen doors) is) (sym halted) (record {
        serves = λ server address workers given asked n opens called are.
            given_up seen server address workers (history_of before.scene.session.installer.list) (site o asked r) (site o n q) doors is status.NotStarted e
            none (record { console = console_refl o; network = called; spawner = later }) (not_started given refl opens rose);
      })

  -- memory ran out
  starved : (session : Session) (works : List WorkView) (o p : ConsoleView) (r q : ℕ) (doors : List D) (is : Status) → LaterConsole o p
      → r ≤ q → is ≡ status.NoMemory → doors ≡ [] → ServesBeside session works o p r q (map seen doors) is
  starved session works o p r q doors is over later e none = record {
    serves = λ server address workers given asked n opens called are.
        given_up seen server address workers (history_of session.installer.list) (site o asked r) (site p n q) doors is status.NoMemory e none
        (record { console = over; network = called; spawner = later }) out_of_memory;
  }

  -- before the talk was begun
  pub beside_left : (before now : BesideView) (works : List WorkView) (r q : ℕ) (doors : List D) (is : Status) → Halted before now → r ≤ q
      → is ≡ status.NoMemory → doors ≡ []
      → ServesBeside before.scene.session works before.scene.console now.scene.console r q (map seen doors) is
  beside_left before now works r q doors is halted later e none =
      subst (λ v. ServesBeside before.scene.session works before.scene.console v.scene.console r q (map seen doors) is) (sym halted)
      (starved before.scene.session works before.scene.console before.scene.console r q doors is (console_refl before.scene.console) later e none)

  -- meanwhile
  pub beside_starved : (before mid now : BesideView) (works : List WorkView) (r q : ℕ) (doors : List D) (is : Status)
      → Ran before mid → Halted mid now → r ≤ q → is ≡ status.NoMemory → doors ≡ []
      → ServesBeside before.scene.session works before.scene.console now.scene.console r q (map seen doors) is
  beside_starved before mid now works r q doors is ran halted later e none =
      starved before.scene.session works before.scene.console now.scene.console r q doors is
      (comes_later before.scene now.scene now.end (came before mid now ran halted).0).console later e none

module _ {D C : Type 0} (seen : D → DoorView) where
  -- the workers are done, and the talk is over
  concluded : (server : Role) (address : List ℕ) (workers : ℕ) (given : List DoorView) (asked n : NetworkView) (r q : ℕ) (before now : Scene) (ended : TalkEnd)
      (works : List WorkView) (dones : List (DoorDone D C)) (doors : List D) (is : Status)
      → LaterSite (site before.console asked r) (site now.console n q) → OpensDoors asked n address workers given
      → AreWorks server before.session.installer.pair (length before.session.installer.list) given works → DoesEach (Does seen) works dones
      → before.session.installer.subscribers ≡ []
      → Talked before now ended → q ≡ r → Concludes now.session dones ended doors is
      → ServesOpened server address workers (history_of before.session.installer.list) (site before.console asked r) (site now.console n q) (map seen doors) is
  concluded server address workers given asked n r q before now ended works dones doors is later opens are does nobody talked started (inl learnt) =
      let opening = history_of before.session.installer.list in
      let list = now.session.installer.list in
      let worn = list_any (λ d. d.worn) dones in
      let served_so = all_served seen server (length before.session.installer.list) list before.session.installer.pair given works dones are
      learnt.workers.seen does in
      let all : ServesDoors server (length opening) (history_of list) given (map seen doors) worn =
      subst (λ n. ServesDoors server n (history_of list) given (map seen doors) worn) (sym (history_length before.session.installer.list))
      (subst (λ ds. ServesDoors server (length before.session.installer.list) (history_of list) given (map seen ds) worn) (sym learnt.workers.doors_are)
      served_so) in
      record {
        later = later;
        history = history_of list;
        ends = subst
            (λ e. OpenedEnds server address workers opening (site before.console asked r) (site now.console n q) (history_of list) (map seen doors) e)
            (sym learnt.ending)
            (served (history_of list) given (map seen doors) ended worn learnt.fits (operated before now ended nobody learnt.seen talked) opens started all);
      }
  concluded server address workers given asked n r q before now ended works dones doors is later opens are does nobody talked started (inr none) =
      given_up seen server address workers (history_of before.session.installer.list) (site before.console asked r) (site now.console n q) doors is
      status.NoMemory none.0 none.1 later out_of_memory

  pub beside_done : (before mid now : BesideView) (ended : TalkEnd) (works : List WorkView) (dones : List (DoorDone D C)) (r q : ℕ)
      (doors : List D) (is : Status)
      → Ran before mid → Halted mid now → now.end ≡ Some ended → r ≤ q → q ≡ r → DoesEach (Does seen) works dones
      → Concludes now.scene.session dones ended doors is → before.scene.session.installer.subscribers ≡ []
      → ServesBeside before.scene.session works before.scene.console now.scene.console r q (map seen doors) is
  beside_done before mid now ended works dones r q doors is ran halted e later started does so nobody =
      let talked : Talked before.scene now.scene ended =
      subst (λ x. ComesTo before.scene now.scene x) e (came before mid now ran halted).0 in record {
        serves = λ server address workers given asked n opens called are.
            concluded server address workers given asked n r q before.scene now.scene ended works dones doors is
            (record { console = talked.over.later.console; network = called; spawner = later }) opens are does nobody talked started so;
      }

  -- the desks of the workers are of the pair that the console publishes to
  pub pairs_now : (before mid now : BesideView) (works : List WorkView) (dones : List (DoorDone D C)) → Ran before mid → Halted mid now
      → HasWorks before.scene.session.installer.pair works → DoesEach (Does seen) works dones
      → All (λ d. d.desk.pair ≡ now.scene.session.installer.pair) dones
  pairs_now before mid now works dones ran halted has does =
      subst (λ p. All (λ d. d.desk.pair ≡ p) dones)
      (sym (comes_later before.scene now.scene now.end (came before mid now ran halted).0).session.installer)
      (same_pairs seen has.0 before.scene.session.installer.pair has.1 has.2 works dones has.3 does)
