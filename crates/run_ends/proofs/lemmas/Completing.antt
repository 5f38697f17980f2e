-- What the ends of several commands come to where no count of faults rose.
use Rattle.std.proofs.Common.{◌≡◌, inl, inr, ℕ, Bool, true, false, ◌||◌, List, [], ◌++◌, Option, None, Some, refl, sym, ap, ◌∙◌, subst, arith}
use Rattle.std.specs.List.{AllByRecursion}
use Rattle.std.specs.Prelude.{IfSome}
use Rattle.td_base.specs.DoorViews.{DoorView}
use Rattle.td_base.specs.Upstreams.{IsNewUpstream, TellsMore, UpstreamView}
use Rattle.td_base.specs.Views.{Rose, RoseBy, SinkView}
use Rattle.td_base.specs.declared.report.Role.{Role}
use Rattle.td_base.specs.declared.upstream.Exchange.{Exchange}
use Rattle.catalogue.specs.Releases.{ReleaseData}
use Rattle.connection.specs.declared.door_work.TheConstants.{MOST_FAILURES}
use Rattle.run_ends.specs.Completing.{IsComplete, TellsFirst}
use Rattle.run_ends.specs.Printing.{Printed}
use Rattle.run_ends.specs.Running.Server.{OpenedEnds, ServesDoor, ServesDoors, status_for}
use Rattle.run_ends.specs.Running.Server as server
use Rattle.run_ends.specs.Site.{ConsoleView, SiteView}
use Rattle.run_ends.specs.Talking.{AnswersOperator, IsCut}
use Rattle.run_ends.specs.Talking as talking
use Rattle.run_ends.specs.declared.status.Status.{Status}
use Rattle.run_ends.specs.declared.status.Status.TheVariants as status
use Rattle.run_ends.specs.declared.talk_end.TalkEnd.{TalkEnd}
use Rattle.run_ends.specs.declared.talk_end.TalkEnd.TheVariants as talk

-- ---- statuses

pub done : IsComplete status.Done
done = inl refl

pub memory : IsComplete status.NoMemory
memory = inr refl

-- what is the work itself was printed
pub printed_done : (text : List ℕ) (old new : SinkView) (is : Status) → Printed status.Done text old new is → (Rose old.faults new.faults → ⊥) → IsComplete is
printed_done text old new status.Done printed none = done
printed_done text old new status.NotWritten printed none = absurd (none (printed.failed refl))
printed_done text old new status.Usage printed none = absurd printed
printed_done text old new status.Refused printed none = absurd printed
printed_done text old new status.NotRead printed none = absurd printed
printed_done text old new status.NotStarted printed none = absurd printed
printed_done text old new status.NoNetwork printed none = absurd printed
printed_done text old new status.NotSynced printed none = absurd printed
printed_done text old new status.NoMemory printed none = absurd printed

-- ---- the exchanges that are told are those of the one sync

same_told : (all others : List Exchange) → Some all ≡ Some others → all ≡ others
same_told all others e = cc

told_are : (first last : Option (List Exchange)) (all more : List Exchange) → IfSome first (λ exchanges. exchanges ≡ []) → TellsMore first last more
    → last ≡ Some all → all ≡ more
told_are (Some begun) (Some told) all more new tells is = same_told all told (sym is) ∙ tells ∙ ap (λ l. l ++ more) new
told_are (Some begun) None all more new tells is = absurd tells
told_are None (Some told) all more new tells is = absurd tells
told_are None None all more new tells is = absurd (cc)

same_upstream : (u v : UpstreamView) → Some u ≡ Some v → u ≡ v
same_upstream u v e = cc

-- of a server of which nothing was asked before
pub parts_told : (first last : UpstreamView) (xs exchanges : List Exchange) (k : TellsFirst (Some last) xs) → IsNewUpstream first
    → TellsMore first.told last.told exchanges → exchanges ≡ xs ++ k.more
parts_told first last xs exchanges k new tells =
    let same : last ≡ k.upstream = same_upstream last k.upstream k.is_it in
    sym (told_are first.told last.told (xs ++ k.more) exchanges new.told tells (ap (λ (u : UpstreamView). u.told) same ∙ k.told))

-- and which did not fail
pub never_failed : (first last : UpstreamView) → IsNewUpstream first → last.faults ≡ 0 → Rose first.faults last.faults → ⊥
never_failed first last new none rose = absurd (omega (arith, new.faults, none, rose))

-- ---- writes

-- a write that is whole leaves the count
rose_after : (old middle new : ℕ) → middle ≡ old → Rose middle new → Rose old new
rose_after old middle new same rose = subst (λ n. Rose n new) same rose

cut_rose : (opening : List ReleaseData) (old new : SinkView) (told : List (List ℕ)) → IsCut opening old new told → Rose old.faults new.faults
cut_rose opening old new told (talking.at_ready writes) = writes.failed refl
cut_rose opening old new told (talking.at_reply first last middle before writes) =
    rose_after old.faults middle.faults new.faults (before.steady refl) (writes.failed refl)

-- ---- doors

not_worn : (role : Role) (least : ℕ) (H : List ReleaseData) (before now : DoorView) (worn : Bool) → ServesDoor role least H before now worn
    → now.faults ≡ 0 → worn ≡ false
not_worn role least H before now false k none = refl
not_worn role least H before now true k none =
    let rose : RoseBy MOST_FAILURES before.faults now.faults = (k.failed refl).least in
    absurd (omega (arith, rose, none))

none_worn : (role : Role) (least : ℕ) (H : List ReleaseData) (given doors : List DoorView) (worn : Bool) → ServesDoors role least H given doors worn
    → AllByRecursion (λ d. d.faults ≡ 0) doors → worn ≡ false
none_worn role least H given doors worn server.no_door none = refl
none_worn role least H given doors worn (server.one_more before now bs ns one others k more) none =
    ap (λ b. b || others) (not_worn role least H before now one k none.0) ∙ none_worn role least H bs ns others more none.1

-- ---- a server

talk_complete : (opening history : List ReleaseData) (before after : ConsoleView) (ended : TalkEnd) (worn : Bool)
    → AnswersOperator opening history before after ended → (Rose before.input.faults after.input.faults → ⊥)
    → (Rose before.output.faults after.output.faults → ⊥) → worn ≡ false → IsComplete (status_for ended worn)
talk_complete opening history before after talk.Quit worn k read wrote none = subst (λ b. IsComplete (status_for talk.Quit b)) (sym none) done
talk_complete opening history before after talk.InputEnded worn k read wrote none =
    subst (λ b. IsComplete (status_for talk.InputEnded b)) (sym none) done
talk_complete opening history before after talk.NotRead worn k read wrote none = absurd (read (k.ends).2)
talk_complete opening history before after talk.NotWritten worn k read wrote none =
    absurd (wrote (cut_rose opening before.output after.output k.told k.written))

pub opened_complete : (role : Role) (address : List ℕ) (workers : ℕ) (opening : List ReleaseData) (before after : SiteView) (history : List ReleaseData)
    (doors : List DoorView) (is : Status) → OpenedEnds role address workers opening before after history doors is
    → (Rose before.console.input.faults after.console.input.faults → ⊥) → (Rose before.console.output.faults after.console.output.faults → ⊥)
    → (Rose before.network.faults after.network.faults → ⊥) → (Rose before.spawner after.spawner → ⊥)
    → AllByRecursion (λ d. d.faults ≡ 0) doors → IsComplete is
opened_complete role address workers opening before after history doors is (server.served h given ds ended worn fits answers opens started serves) read wrote net work none =
    talk_complete opening history before.console after.console ended worn answers read wrote
    (none_worn role _ history given doors worn serves none)
opened_complete role address workers opening before after history doors is (server.no_network same called rose) read wrote net spawn none =
    absurd (net rose)
opened_complete role address workers opening before after history doors is (server.not_started given same opens rose) read wrote net spawn none =
    absurd (spawn rose)
opened_complete role address workers opening before after history doors is server.out_of_memory read wrote net spawn none = memory
