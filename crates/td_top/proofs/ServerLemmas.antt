-- What doors that were served beside a talk come to, over the history of the run.
use Rattle.std.proofs.Common.{◌≡◌, ℕ, ◌≤◌, List, [], ◌∷◌, length, map, Bool, true, false, All, Option, arith}
use Rattle.std.proofs.Common.{None, Some, IfSome, inl, inr, refl, sym, subst, ap, ◌∙◌}
use Rattle.std.specs.List.{list_any}
use Rattle.std.specs.Global.{Vec}
use Rattle.std.proofs.lemmas.List.{length-map}
use Rattle.std.proofs.lemmas.Simd.{map-map}
use Rattle.std.proofs.lemmas.List.Elements.{All-cons, All-head, All-nil, All-tail, All-weaker}
use Rattle.std.proofs.lemmas.Bool.{true≢false}
use mathlib.Core.List.{IsPrefix}
use Rattle.td_base.specs.DoorViews.{DoorContent, DoorView, NetworkContent, NetworkView}
use Rattle.td_base.specs.Doors.{IsNewDoor, OpenTold, Opens}
use Rattle.td_base.specs.declared.network.Made.TheVariants as made
use Rattle.td_base.specs.declared.report.Role.{Role}
use Rattle.catalogue.specs.Releases.{ReleaseData}
use Rattle.catalogue.specs.declared.holding.Catalogue.{Catalogue}
use Rattle.connection.specs.DoorWorks.{DoesDoor, FailedFew, NoneOut, ServesTold, Stops, WorkView, at_end}
use Rattle.connection.specs.DoorWorks.{at_flag, by_faults, places_of}
use Rattle.connection.proofs.PlaceLemmas.{all_weaker}
use Rattle.connection.specs.FaultCounts.{RoseTimes}
use Rattle.connection.specs.declared.door_work.TheConstants.{MOST_FAILURES}
use Rattle.connection.specs.declared.door_work.DoorDone.{DoorDone}
use Rattle.desk_pool.specs.Flag.{Sight}
use Rattle.desk_pool.specs.Pool.{DoesEach}
use Rattle.catalogue.specs.Holdings.{history_of}
use Rattle.logbook.specs.Pages.{Book}
use Rattle.publication.specs.Views.{DeskView}
use Rattle.td_base.proofs.lemmas.Beginnings.{prefix_self}
use Rattle.td_top.specs.ConsoleBeside.{BesideView, Halted, Ran}
use Rattle.run_ends.specs.Running.Server.{CalledTold, ConnsTold, IsDone, OpensDoors, OpenedTold}
use Rattle.run_ends.specs.Running.Server.{ServesDoor, ServesDoors, no_door, one_more}
use Rattle.run_ends.specs.Operator.{Talks, talk_begun}
use Rattle.run_ends.specs.Talking.{AnswersOperator, ComesTo, LaterScene, Scene, Talked}
use Rattle.td_top.specs.Works.{AreWorks}
use Rattle.run_ends.specs.Opening.{HasSeen}
use Rattle.run_ends.specs.declared.talk_end.TalkEnd.{TalkEnd}
use Rattle.catalogue.proofs.lemmas.HistoryLemmas.{history_longer}
use Rattle.td_top.proofs.Hears.{tells_each_change}

-- ---- the talk

-- over the history that was published, of which the console's desk has seen no more
pub operated : (before now : Scene) (ended : TalkEnd) → before.session.installer.subscribers ≡ [] → IsPrefix now.session.desk.seen now.session.installer.list
    → Talked before now ended
    → AnswersOperator (history_of before.session.installer.list) (history_of now.session.installer.list) before.console now.console ended
operated before now ended nobody seen t =
    let whole : List ReleaseData = history_of now.session.installer.list in
    let talk = t.over.talks whole (record {
      published = prefix_self whole;
      seen = history_longer now.session.desk.seen now.session.installer.list seen;
    }) in
    let opening : List ReleaseData = history_of before.session.installer.list in
    let talks : Talks whole (talk_begun opening before.console.feed) t.asked t.told talk.0 =
    subst (λ s. Talks whole (record (talk_begun opening before.console.feed) { subscribers = s }) t.asked t.told talk.0) nobody talk.2 in
    record {
      read = t.read;
      asked = t.asked;
      ignored = t.ignored;
      told = t.told;
      last = talk.0;
      reads = t.reads;
      needed = t.needed;
      talks = talks;
      hears = tells_each_change whole opening before.console.feed t.asked t.told talk.0 talks;
      published = talk.1.published;
      feed = talk.1.feed;
      written = t.written;
      ends = t.ends;
      fails = t.fails;
    }

-- ---- doors

told_over : (server : Role) (least : ℕ) (list : List (Catalogue (List ℕ))) (before now : Option DoorContent) (desk desk' : DeskView (Catalogue (List ℕ)))
    → least ≤ length desk.seen → IsPrefix desk'.seen list
    → ServesTold server before now desk desk' → ConnsTold server least (history_of list) before now
told_over server least list (Some before) (Some now) desk desk' many seen h = record {
  inputs = h.inputs;
  finished = h.finished;
  given = h.given;
  coming = h.coming;
  finished_is = h.finished_is;
  served = h.served (history_of list) (history_longer desk'.seen list seen);
  first = all_weaker (λ p. length desk.seen ≤ p) (λ p. least ≤ p) (places_of h.finished) (λ p from. omega (arith, many, from)) h.first;
  rising = h.rising;
}
told_over server least list (Some before) None desk desk' many seen h = absurd h
told_over server least list None (Some now) desk desk' many seen h = absurd h
told_over server least list None None desk desk' many seen h = tt

done_by : (before now : DoorView) (raised worn : Bool) → Stops before now raised worn → worn ≡ false → IsDone now × FailedFew before.faults now.faults
done_by before now raised worn (at_end last none few is) e = (inl (last, none), few)
done_by before now raised worn (at_flag last up few is) e = (inr last, few)
done_by before now raised worn (by_faults last rose is) e = absurd (true≢false (sym is ∙ e))

worn_by : (before now : DoorView) (raised worn : Bool) → Stops before now raised worn → worn ≡ true → RoseTimes MOST_FAILURES before.faults now.faults
worn_by before now raised worn (at_end last none few is) e = absurd (true≢false (sym e ∙ is))
worn_by before now raised worn (at_flag last up few is) e = absurd (true≢false (sym e ∙ is))
worn_by before now raised worn (by_faults last rose is) e = rose

door_served : (server : Role) (least : ℕ) (list : List (Catalogue (List ℕ))) (before now : DoorView) (desk desk' : DeskView (Catalogue (List ℕ)))
    (sign sign' : Sight) (worn : Bool) → least ≤ length desk.seen
    → IsPrefix desk'.seen list → DoesDoor server before now desk desk' sign sign' worn → ServesDoor server least (history_of list) before now worn
door_served server least list before now desk desk' sign sign' worn many seen h = record {
  told = told_over server least list before.content now.content desk desk' many seen h.serves;
  done = done_by before now sign'.raised worn h.stops;
  failed = worn_by before now sign'.raised worn h.stops;
}

-- ---- doors that were served

module _ {D C : Type 0} (seen : D → DoorView) where
  -- what a work promises of its result
  abbrev pub Does : WorkView → DoorDone D C → Type 0
  Does w d = DoesDoor w.role w.door (seen d.door) w.desk d.desk w.stop d.sign d.worn

  one_served : (server : Role) (least : ℕ) (list : List (Catalogue (List ℕ))) (pair : Book) (given : DoorView) (w : WorkView) (d : DoorDone D C)
      → (w.role ≡ server) × (w.door ≡ given) × HasSeen pair least w.desk → IsPrefix d.desk.seen list → Does w d
      → ServesDoor server least (history_of list) given (seen d.door) d.worn
  one_served server least list pair given w d is held does =
      door_served server least list given (seen d.door) w.desk d.desk w.stop d.sign d.worn is.2.many held
      (subst (λ b. DoesDoor server b (seen d.door) w.desk d.desk w.stop d.sign d.worn) is.1
      (subst (λ r. DoesDoor r w.door (seen d.door) w.desk d.desk w.stop d.sign d.worn) is.0 does))

  pub all_served : (server : Role) (least : ℕ) (list : List (Catalogue (List ℕ))) (pair : Book) (given : List DoorView) (works : List WorkView)
      (dones : List (DoorDone D C))
      → AreWorks server pair least given works → All (λ d. IsPrefix d.desk.seen list) dones → DoesEach Does works dones
      → ServesDoors server least (history_of list) given (map seen (map (λ d. d.door) dones)) (list_any (λ d. d.worn) dones)
  all_served server least list pair [] [] [] are held does = no_door
  all_served server least list pair [] (w ∷ ws) dones are held does = absurd are
  all_served server least list pair (g ∷ gs) [] dones are held does = absurd are
  all_served server least list pair [] [] (d ∷ ds) are held does = absurd does
  all_served server least list pair (g ∷ gs) (w ∷ ws) [] are held does = absurd does
  all_served server least list pair (g ∷ gs) (w ∷ ws) (d ∷ ds) are held does =
      one_more g (seen d.door) gs (map seen (map (λ d. d.door) ds)) d.worn (list_any (λ d. d.worn) ds)
      (one_served server least list pair g w d are.0 (All-head (λ d. IsPrefix d.desk.seen list) d ds held) does.0)
      (all_served server least list pair gs ws ds are.1 (All-tail (λ d. IsPrefix d.desk.seen list) d ds held) does.1)

  -- the desks of the workers are of their pair
  pub same_pairs : (server : Role) (pair : Book) (least : ℕ) (given : List DoorView) (works : List WorkView) (dones : List (DoorDone D C))
      → AreWorks server pair least given works → DoesEach Does works dones → All (λ d. d.desk.pair ≡ pair) dones
  same_pairs server pair least [] [] [] are does = All-nil (λ d. d.desk.pair ≡ pair)
  same_pairs server pair least [] (w ∷ ws) dones are does = absurd are
  same_pairs server pair least (g ∷ gs) [] dones are does = absurd are
  same_pairs server pair least [] [] (d ∷ ds) are does = absurd does
  same_pairs server pair least (g ∷ gs) (w ∷ ws) [] are does = absurd does
  same_pairs server pair least (g ∷ gs) (w ∷ ws) (d ∷ ds) are does =
      All-cons (λ d. d.desk.pair ≡ pair) d ds (does.0.desk_goes_on.pair ∙ are.0.2.pair_is) (same_pairs server pair least gs ws ds are.1 does.1)

-- ---- the talk beside the works

-- the talk beside the works, and what it was lent
pub came : (before mid now : BesideView) → Ran before mid → Halted mid now → (ComesTo before.scene now.scene now.end) × (now.lent ≡ before.lent)
came before mid now ran halted =
    (subst (λ v. ComesTo before.scene v.scene v.end) (sym halted) ran.talk, ap (λ v. v.lent) halted ∙ ran.lent)

pub same_rules : (before mid now : BesideView) → Ran before mid → Halted mid now → now.rules ≡ before.rules
same_rules before mid now ran halted = ap (λ v. v.rules) halted ∙ ran.rules

-- any calls were made meanwhile
pub comes_later : (before now : Scene) (ended : Option TalkEnd) → ComesTo before now ended → LaterScene before now
comes_later before now (Some e) h = h.over.later
comes_later before now None h = h

-- ---- the network

module _ {D : Type 0} (seen : D → DoorView) where
  opened_told : (before now : Option NetworkContent) (address : List ℕ) (n : ℕ) (doors : Vec D) → length (map seen doors.items) ≡ n
      → OpenTold seen before now address n (made.Given doors) → OpenedTold before now address (map seen doors.items)
  opened_told (Some before) (Some now) address n doors many h = rw many (h.0, map-map (λ d. d.content) seen doors.items ∙ h.1)
  opened_told (Some before) None address n doors many h = absurd h
  opened_told None (Some now) address n doors many h = absurd h
  opened_told None None address n doors many h = tt

  -- a call that failed gave nothing
  pub called_told : (before now : Option NetworkContent) (address : List ℕ) (n : ℕ) → OpenTold seen before now address n made.Failed → CalledTold before now
  called_told (Some before) (Some now) address n h = h
  called_told (Some before) None address n h = absurd h
  called_told None (Some now) address n h = absurd h
  called_told None None address n h = tt

  all_new : (doors : List D) → All (λ d. IsNewDoor (seen d)) doors → All IsNewDoor (map seen doors)
  all_new [] h = All-nil IsNewDoor
  all_new (d ∷ ds) h =
      All-cons IsNewDoor (seen d) (map seen ds) (All-head (λ e. IsNewDoor (seen e)) d ds h) (all_new ds (All-tail (λ e. IsNewDoor (seen e)) d ds h))

  pub opens_doors : (before now : NetworkView) (address : List ℕ) (n : ℕ) (doors : Vec D) → Opens seen before now address n (made.Given doors)
      → OpensDoors before now address n (map seen doors.items)
  opens_doors before now address n doors h =
      let many : length (map seen doors.items) ≡ n = length-map doors.items seen ∙ h.fits.0 in
      record {
        many = many;
        new = all_new doors.items h.fits.1;
        told = opened_told before.content now.content address n doors many h.told;
        steady = h.steady refl;
      }

  -- of a new door no connection is out
  told_none : (o : Option DoorContent) → IfSome o (λ c. (c.given ≡ []) × (c.finished ≡ [])) → IfSome o (λ c. length c.finished ≡ length c.given)
  told_none None h = tt
  told_none (Some c) h = ap length h.1 ∙ sym (ap length h.0)

  pub none_out : (doors : List D) → All (λ d. IsNewDoor (seen d)) doors → All (λ d. NoneOut (seen d)) doors
  none_out doors h = All-weaker (λ d. IsNewDoor (seen d)) (λ d. NoneOut (seen d)) (λ d new. told_none (seen d).content new.content) doors h
