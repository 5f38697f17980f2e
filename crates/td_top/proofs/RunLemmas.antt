-- How a run of `serve` ends over all that is outside it.
use Rattle.std.proofs.Common.{◌≡◌, ℕ, List, Option, None, Some, Ok, refl, sym, subst}
use Rattle.admission.specs.declared.rules.Chosen.{Chosen}
use Rattle.td_base.specs.Views.{SinkView, SourceView, StoreView}
use Rattle.td_base.specs.DoorViews.{DoorView, NetworkView}
use Rattle.td_base.specs.Upstreams.{UpstreamView}
use Rattle.td_base.specs.declared.report.Role.TheVariants as role
use Rattle.td_base.proofs.lemmas.LaterLemmas.{store_trans}
use Rattle.catalogue.specs.declared.holding.Catalogue.{Catalogue}
use Rattle.catalogue.specs.Holdings.{history_of}
use Rattle.run_ends.specs.Commands.{serve}
use Rattle.run_ends.specs.Feeds.{folders}
use Rattle.run_ends.specs.Opening.{InstallsAll}
use Rattle.run_ends.specs.Outside.{outside, world}
use Rattle.run_ends.specs.Running.{RunEndsLater}
use Rattle.run_ends.specs.Running.Server.{OpenedEnds, opened}
use Rattle.td_top.specs.ServerSteps.{ServesOpened}
use Rattle.run_ends.specs.Site.{console, site}
use Rattle.run_ends.specs.declared.status.Status.{Status}

-- the doors of an address were served, once the folders had given their releases
pub ran_doors : (address : List ℕ) (workers : ℕ) (rules rules' : List Chosen) (dirs : List (List ℕ)) (list : List (Catalogue (List ℕ)))
    (s t u : StoreView) (i j : SourceView) (o p : SinkView) (n m : NetworkView) (r q : ℕ) (doors : List DoorView) (up : Option UpstreamView) (is : Status)
    → up ≡ None → InstallsAll rules dirs s t (Ok list)
    → ServesOpened role.Primary address workers (history_of list) (site (console (folders rules t) i o) n r) (site (console (folders rules' u) j p) m q)
    doors is
    → RunEndsLater (Some (serve address workers rules dirs)) (world (outside s i o) n r) (world (outside u j p) m q) doors up is
ran_doors address workers rules rules' dirs list s t u i j o p n m r q doors up is none all h =
    let grew = h.later.console.feed in
    let ends = subst
    (λ x. OpenedEnds role.Primary address workers (history_of list) (site (console (folders rules t) i o) n r) (site (console (folders x u) j p) m q)
    h.history doors is) grew.0 h.ends in
    subst (λ x. RunEndsLater (Some (serve address workers rules dirs)) (world (outside s i o) n r) (world (outside u j p) m q) doors x is) (sym none) (record {
      ends = (opened (history_of list) h.history t doors is all.came all.later ends, refl);
      later = record {
        outside = record {
          store = store_trans s t u all.later grew.1;
          input = h.later.console.input;
          output = h.later.console.output;
        };
        network = h.later.network;
        spawner = h.later.spawner;
      };
    })
