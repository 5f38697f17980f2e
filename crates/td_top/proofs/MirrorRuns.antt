-- How the run of a mirror ends.
use Rattle.std.proofs.Common.{◌≡◌, ◌≢◌, ◌≤◌, ℕ, List, [], ◌∷◌, inl, inr, Option, None, Some, Ok, Err, refl, sym, ap, subst, arith}
use Rattle.td_base.specs.DoorViews.{DoorView, NetworkView}
use Rattle.td_base.specs.Upstreams.{Reaches, UpstreamView}
use Rattle.td_base.specs.Views.{LaterSink, SinkView, SourceView, StoreView}
use Rattle.td_base.specs.declared.network.Made.TheVariants as made
use Rattle.td_base.specs.declared.report.Role.TheVariants as role
use Rattle.td_base.proofs.lemmas.LaterLemmas.{sink_refl, source_refl, store_refl}
use Rattle.catalogue.specs.Holdings.{history_of}
use Rattle.catalogue.specs.Releases.{ReleaseData}
use Rattle.catalogue.specs.declared.holding.Catalogue.{Catalogue}
use Rattle.installer.specs.FaultText.{fault_text}
use Rattle.installer.specs.declared.install_fault.InstallFault.{InstallFault}
use Rattle.installer.specs.declared.install_fault.InstallFault.TheVariants as install
use Rattle.mirror.specs.FaultText.{fault_text as sync_text}
use Rattle.mirror.specs.declared.sync_fault.SyncFault.{SyncFault}
use Rattle.mirror.specs.declared.sync_fault.SyncFault.TheVariants as sync
use Rattle.release_check.specs.declared.check_fault.CheckFault.TheVariants as fault
use Rattle.sync_core.specs.Mirrors.{MirrorState, empty_mirror}
use Rattle.run_ends.specs.Following.{StatesAfter, SyncsAs}
use Rattle.td_top.specs.FollowingSteps.{OpensStated}
use Rattle.run_ends.specs.Commands.{mirror}
use Rattle.run_ends.specs.Feeds.{FeedView, following}
use Rattle.run_ends.specs.Running.Mirroring.{Mirrors, ReachesServer, not_synced, opened, out_of_memory, refused, unreached}
use Rattle.td_top.specs.MirroringSteps.{FollowEnds, FollowsOn, ServesStated, StatedEnds, TellsWhy}
use Rattle.td_top.specs.MirroringSteps as steps
use Rattle.run_ends.specs.Outside.{outside, world}
use Rattle.run_ends.specs.Printing.{Printed, refused_line}
use Rattle.run_ends.specs.Running.{RunEndsLater, RunsAs}
use Rattle.run_ends.specs.Running.Server.{OpenedEnds, no_network, not_started, served, status_for}
use Rattle.run_ends.specs.Running.Server.{out_of_memory as out_of_memory_opened}
use Rattle.td_top.specs.ServerSteps.{ServesOpened}
use Rattle.run_ends.specs.Site.{LaterSite, SiteView, console, site}
use Rattle.run_ends.specs.Tells.{IsLeft, RefusesInstall, RefusesSync, Tells}
use Rattle.run_ends.specs.declared.status.Status.{Status}
use Rattle.run_ends.specs.declared.status.Status.TheVariants as status
use Rattle.run_ends.proofs.lemmas.Endings.{left_sink, printed_later}
use Rattle.run_ends.proofs.lemmas.Reaching.{not_told}
use Rattle.run_ends.proofs.lemmas.Runs.{runs_as}
use Rattle.td_top.proofs.lemmas.FeedLemmas.{later_sync}
use Rattle.td_top.proofs.lemmas.FeedLemmas.{feed_refl, feed_trans}
use Rattle.td_top.proofs.MirrorHistory.{Laws, follows_first, follows_primary}

-- ---- a refusal

-- nothing but the output was touched
later_output : (g : FeedView) (i : SourceView) (o p : SinkView) (n : NetworkView) (r : ℕ) → LaterSink o p
    → LaterSite (site (console g i o) n r) (site (console g i p) n r)
later_output g i o p n r sink = record {
  console = record { feed = feed_refl g; input = source_refl i; output = sink };
  network = omega arith;
  spawner = omega arith;
}

-- nothing was done
pub left_all : (g : FeedView) (i : SourceView) (o : SinkView) (n : NetworkView) (r : ℕ)
    → LaterSite (site (console g i o) n r) (site (console g i o) n r)
left_all g i o n r = later_output g i o o n r (sink_refl o)

tells_why : (called : Status) (why : List ℕ) (g : FeedView) (i : SourceView) (o p : SinkView) (n : NetworkView) (r : ℕ) (end : Status)
    → Printed called (refused_line why) o p end → TellsWhy called why (site (console g i o) n r) (site (console g i p) n r) end
tells_why called why g i o p n r end h = record { printed = h; feed = refl; input = refl; network = refl; spawner = refl }

-- ---- what a settled mirror states

module _ (host address : List ℕ) (workers : ℕ) (s : MirrorState) where
  pub stated_starved : (before after : SiteView) (is : Status) (doors : List DoorView) → LaterSite before after → is ≡ status.NoMemory → doors ≡ []
      → ServesStated host address workers s before after doors is
  stated_starved before after is doors later e none =
      subst (λ ds. ServesStated host address workers s before after ds is) (sym none)
      (subst (λ x. ServesStated host address workers s before after [] x) (sym e) (record { later = later; ends = steps.out_of_memory }))

  -- a history that was opened, and its doors served
  pub stated_served : (list : List (Catalogue (List ℕ))) (before after : SiteView) (doors : List DoorView) (is : Status) → OpensStated s (Ok list)
      → ServesOpened (role.Secondary host) address workers (history_of list) before after doors is
      → ServesStated host address workers s before after doors is
  stated_served list before after doors is opens h = record {
    later = h.later;
    ends = steps.opened opens.0 h.history doors is opens.1
        (subst (λ H. OpenedEnds (role.Secondary host) address workers H before after h.history doors is) opens.2 h.ends);
  }

  why_stated : (e : InstallFault) (g : FeedView) (i : SourceView) (o p : SinkView) (n : NetworkView) (r : ℕ) (is : Status) → OpensStated s (Err e)
      → RefusesInstall e o p is → ServesStated host address workers s (site (console g i o) n r) (site (console g i p) n r) [] is
  why_stated install.NoMemory g i o p n r is opens h =
      subst (λ x. ServesStated host address workers s (site (console g i o) n r) (site (console g i p) n r) [] x) (sym h.0)
      (record { later = later_output g i o p n r (left_sink o p h.1); ends = steps.out_of_memory })
  why_stated (install.Check fault.NoMemory) g i o p n r is opens h = absurd (opens.1 refl)
  why_stated (install.Check fault.ReadFault) g i o p n r is opens h = absurd (opens.0 refl)
  why_stated (install.Check f) g i o p n r is opens (inl told) = record {
    later = later_output g i o p n r (printed_later status.Refused is (refused_line (fault_text (install.Check f))) o p told);
    ends = steps.refused (install.Check f) is (opens.2 ((λ e. cc), (λ e. cc))) ((λ e. cc), (λ e. cc))
        (tells_why status.Refused (fault_text (install.Check f)) g i o p n r is told);
  }
  why_stated (install.Check f) g i o p n r is opens (inr left) =
      subst (λ x. ServesStated host address workers s (site (console g i o) n r) (site (console g i p) n r) [] x) (sym left.0)
      (record { later = later_output g i o p n r (left_sink o p left.1); ends = steps.out_of_memory })
  why_stated (install.Policy k) g i o p n r is opens h = absurd (opens.2 tt)

  pub stated_refused : (e : InstallFault) (g : FeedView) (i : SourceView) (o p : SinkView) (n : NetworkView) (r : ℕ) (doors : List DoorView)
      (is told : Status) → OpensStated s (Err e) → RefusesInstall e o p told → is ≡ told → doors ≡ []
      → ServesStated host address workers s (site (console g i o) n r) (site (console g i p) n r) doors is
  stated_refused e g i o p n r doors is told opens h same none =
      subst (λ ds. ServesStated host address workers s (site (console g i o) n r) (site (console g i p) n r) ds is) (sym none)
      (subst (λ x. ServesStated host address workers s (site (console g i o) n r) (site (console g i p) n r) [] x) (sym same)
      (why_stated e g i o p n r told opens h))

-- ---- the first sync

module _ (host address : List ℕ) (workers : ℕ) (s t : MirrorState) (old new : UpstreamView) where
  pub followed : (i : SourceView) (o : SinkView) (n : NetworkView) (r : ℕ) (after : SiteView) (doors : List DoorView) (is : Status)
      → SyncsAs host s t old new (Ok tt)
      → ServesStated host address workers t (site (console (following host t new) i o) n r) after doors is
      → FollowsOn host address workers s old (site (console (following host s old) i o) n r) after doors is
  followed i o n r after doors is h so = record {
    later = record {
      console = record {
        feed = feed_trans (following host s old) (following host t new) after.console.feed (later_sync host s t old new (Ok tt) h)
            so.later.console.feed;
        input = so.later.console.input;
        output = so.later.console.output;
      };
      network = so.later.network;
      spawner = so.later.spawner;
    };
    ends = steps.settled t new doors is h so.ends;
  }

  left_later : (e : SyncFault) (i : SourceView) (o p : SinkView) (n : NetworkView) (r : ℕ) → SyncsAs host s t old new (Err e) → LaterSink o p
      → LaterSite (site (console (following host s old) i o) n r) (site (console (following host t new) i p) n r)
  left_later e i o p n r h sink = record {
    console = record { feed = later_sync host s t old new (Err e) h; input = source_refl i; output = sink };
    network = omega arith;
    spawner = omega arith;
  }

  left_starved : (e : SyncFault) (i : SourceView) (o p : SinkView) (n : NetworkView) (r : ℕ) (is : Status) → SyncsAs host s t old new (Err e)
      → IsLeft o p is status.NoMemory
      → FollowsOn host address workers s old (site (console (following host s old) i o) n r) (site (console (following host t new) i p) n r) [] is
  left_starved e i o p n r is h left =
      subst
      (λ x. FollowsOn host address workers s old (site (console (following host s old) i o) n r) (site (console (following host t new) i p) n r) [] x)
      (sym left.0) (record { later = left_later e i o p n r h (left_sink o p left.1); ends = steps.out_of_memory })

  left_told : (e : SyncFault) (i : SourceView) (o p : SinkView) (n : NetworkView) (r : ℕ) (is : Status) → SyncsAs host s t old new (Err e)
      → e ≢ sync.NoMemory → Tells status.NotSynced (refused_line (sync_text e)) o p is
      → FollowsOn host address workers s old (site (console (following host s old) i o) n r) (site (console (following host t new) i p) n r) [] is
  left_told e i o p n r is h some (inl told) = record {
    later = left_later e i o p n r h (printed_later status.NotSynced is (refused_line (sync_text e)) o p told);
    ends = steps.not_synced t new e is h some (tells_why status.NotSynced (sync_text e) (following host t new) i o p n r is told);
  }
  left_told e i o p n r is h some (inr left) = left_starved e i o p n r is h left

  why_left : (e : SyncFault) (i : SourceView) (o p : SinkView) (n : NetworkView) (r : ℕ) (is : Status) → SyncsAs host s t old new (Err e)
      → RefusesSync e o p is
      → FollowsOn host address workers s old (site (console (following host s old) i o) n r) (site (console (following host t new) i p) n r) [] is
  why_left sync.NoMemory i o p n r is h left = left_starved sync.NoMemory i o p n r is h left
  why_left e i o p n r is h told = left_told e i o p n r is h (λ none. cc) told

  pub not_followed : (e : SyncFault) (i : SourceView) (o p : SinkView) (n : NetworkView) (r : ℕ) (doors : List DoorView) (is told : Status)
      → SyncsAs host s t old new (Err e) → RefusesSync e o p told → is ≡ told → doors ≡ []
      → FollowsOn host address workers s old (site (console (following host s old) i o) n r) (site (console (following host t new) i p) n r) doors is
  not_followed e i o p n r doors is told h so same none =
      subst
      (λ ds. FollowsOn host address workers s old (site (console (following host s old) i o) n r) (site (console (following host t new) i p) n r) ds is)
      (sym none)
      (subst
      (λ x. FollowsOn host address workers s old (site (console (following host s old) i o) n r) (site (console (following host t new) i p) n r) [] x)
      (sym same) (why_left e i o p n r told h so))

-- ---- a whole run

module _ (address : List ℕ) (workers : ℕ) (upstream : List ℕ) (store : StoreView) (i : SourceView) (o : SinkView) (n : NetworkView) (r : ℕ) where
  module _ (laws : Laws) (reached : NetworkView) (first : UpstreamView) (reaches : ReachesServer n reached upstream first)
      (j : SourceView) (p : SinkView) (m : NetworkView)
      (q : ℕ) (t : MirrorState) (last : UpstreamView) where
    opened_run : (u : MirrorState) (ready : UpstreamView) (release : ReleaseData) (history : List ReleaseData) (doors : List DoorView) (is : Status)
        → SyncsAs upstream empty_mirror u first ready (Ok tt) → StatesAfter [] u (Ok release)
        → OpenedEnds (role.Secondary upstream) address workers (release ∷ []) (site (console (following upstream u ready) i o) reached r)
        (site (console (following upstream t last) j p) m q) history doors is
        → Mirrors address workers upstream (world (outside store i o) n r) (world (outside store j p) m q) doors (Some last) is
    opened_run u ready release history doors is h states (served past given ds ended worn fits operator opens started over) =
        opened reached first ready last u t release past ds (status_for ended worn) reaches h states (served past given ds ended worn fits operator opens started over)
        (follows_primary laws upstream first ready last u t release past operator.asked operator.told operator.last h states operator.talks operator.published
        operator.feed)
    opened_run u ready release history doors is h states (no_network left told rose) =
        opened reached first ready last u t release (release ∷ []) [] status.NoNetwork reaches h states (no_network left told rose)
        (follows_first laws upstream first ready last u t release h states (ap (λ a. a.feed) left))
    opened_run u ready release history doors is h states (not_started given left opens rose) =
        opened reached first ready last u t release (release ∷ []) [] status.NotStarted reaches h states (not_started given left opens rose)
        (follows_first laws upstream first ready last u t release h states (ap (λ a. a.feed) left))
    opened_run u ready release history doors is h states out_of_memory_opened = out_of_memory (Some last)

    stated_run : (u : MirrorState) (ready : UpstreamView) (doors : List DoorView) (is : Status) → SyncsAs upstream empty_mirror u first ready (Ok tt)
        → StatedEnds upstream address workers u (site (console (following upstream u ready) i o) reached r)
        (site (console (following upstream t last) j p) m q) doors is
        → Mirrors address workers upstream (world (outside store i o) n r) (world (outside store j p) m q) doors (Some last) is
    stated_run u ready doors is h (steps.opened release history ds end states ends) = opened_run u ready release history ds end h states ends
    stated_run u ready doors is h (steps.refused e end states of told) =
        let same : last ≡ ready = cc in
        refused first last u e end (subst (λ x. ReachesServer n x upstream first) (sym told.network) reaches)
        (subst (λ x. SyncsAs upstream empty_mirror u first x (Ok tt)) (sym same) h) states of
        (record { printed = told.printed; input = told.input; spawner = told.spawner })
    stated_run u ready doors is h steps.out_of_memory = out_of_memory (Some last)

    follow_run : (doors : List DoorView) (is : Status)
        → FollowEnds upstream address workers empty_mirror first (site (console (following upstream empty_mirror first) i o) reached r)
        (site (console (following upstream t last) j p) m q) doors is
        → Mirrors address workers upstream (world (outside store i o) n r) (world (outside store j p) m q) doors (Some last) is
    follow_run doors is (steps.settled u ready ds end h ends) = stated_run u ready ds end h ends
    follow_run doors is (steps.not_synced u ended e end h some told) =
        let same : last ≡ ended = cc in
        not_synced first last u e end (subst (λ x. ReachesServer n x upstream first) (sym told.network) reaches)
        (subst (λ x. SyncsAs upstream empty_mirror u first x (Err e)) (sym same) h) some
        (record { printed = told.printed; input = told.input; spawner = told.spawner })
    follow_run doors is steps.out_of_memory = out_of_memory (Some last)

  -- what the mirror asks as stays
  pub ran_mirror : Laws → (reached : NetworkView) (first : UpstreamView) (host : List ℕ) (j : SourceView) (p : SinkView) (m : NetworkView) (q : ℕ)
      (t : MirrorState)
      (last : UpstreamView) (doors : List DoorView) (up : Option UpstreamView) (is : Status) → ReachesServer n reached upstream first
      → n.faults ≤ reached.faults
      → FollowsOn upstream address workers empty_mirror first (site (console (following upstream empty_mirror first) i o) reached r)
      (site (console (following host t last) j p) m q) doors is → up ≡ Some last
      → RunEndsLater (Some (mirror address workers upstream)) (world (outside store i o) n r) (world (outside store j p) m q) doors up is
  ran_mirror laws reached first host j p m q t last doors up is reaches later h same =
      let asked : host ≡ upstream = h.later.console.feed.0 in
      let ends = subst
      (λ x. FollowEnds upstream address workers empty_mirror first (site (console (following upstream empty_mirror first) i o) reached r)
      (site (console (following x t last) j p) m q) doors is)
      asked h.ends in
      subst (λ x. RunEndsLater (Some (mirror address workers upstream)) (world (outside store i o) n r) (world (outside store j p) m q) doors x is) (sym same)
      (record {
        ends = (follow_run laws reached first reaches j p m q t last doors is ends, refl);
        later = record {
          outside = record { store = store_refl store; input = h.later.console.input; output = h.later.console.output };
          network = omega (arith, later, h.later.network);
          spawner = h.later.spawner;
        };
      })

  -- no server was reached
  pub not_ran : (m : NetworkView) (end : Status) → n.faults ≤ m.faults
      → Mirrors address workers upstream (world (outside store i o) n r) (world (outside store i o) m r) [] None end
      → RunsAs (Some (mirror address workers upstream)) (world (outside store i o) n r) (world (outside store i o) m r) [] None end
  not_ran m end later h = runs_as (Some (mirror address workers upstream)) (world (outside store i o) n r) (world (outside store i o) m r) [] None end (record {
    ends = (h, refl);
    later = record {
      outside = record { store = store_refl store; input = source_refl i; output = sink_refl o };
      network = later;
      spawner = omega arith;
    };
  })

  pub unreached_ends : {U : Type 0} (seen : U → UpstreamView) (m : NetworkView) → Reaches seen n m upstream made.Failed
      → Mirrors address workers upstream (world (outside store i o) n r) (world (outside store i o) m r) [] None status.NoNetwork
  unreached_ends seen m h = unreached (refl, refl) (not_told seen n.content m.content upstream h.told) (h.failed refl) refl
