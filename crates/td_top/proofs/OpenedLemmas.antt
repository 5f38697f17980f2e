-- What serving doors comes to where none was served to its end.
use Rattle.std.proofs.Common.{◌≡◌, ℕ, ◌≤◌, List, [], map, sym, subst, arith}
use Rattle.td_base.specs.DoorViews.{DoorView, NetworkView}
use Rattle.td_base.specs.declared.report.Role.{Role}
use Rattle.td_base.proofs.lemmas.LaterLemmas.{sink_refl, source_refl}
use Rattle.catalogue.specs.Releases.{ReleaseData}
use Rattle.run_ends.specs.Running.Server.{OpenedEnds}
use Rattle.run_ends.specs.Site.{ConsoleView, LaterConsole, LaterSite, SiteView, site}
use Rattle.run_ends.specs.declared.status.Status.{Status}
use Rattle.td_top.proofs.lemmas.FeedLemmas.{feed_refl}
use Rattle.td_top.specs.ServerSteps.{ServesOpened}

-- nothing was done
pub console_refl : (a : ConsoleView) → LaterConsole a a
console_refl a = record { feed = feed_refl a.feed; input = source_refl a.input; output = sink_refl a.output }

-- no door was served to its end
pub given_up : {D : Type 0} (seen : D → DoorView) (server : Role) (address : List ℕ) (workers : ℕ) (opening : List ReleaseData) (before after : SiteView)
    (doors : List D) (is end : Status) → is ≡ end → doors ≡ [] → LaterSite before after
    → OpenedEnds server address workers opening before after opening [] end
    → ServesOpened server address workers opening before after (map seen doors) is
given_up seen server address workers opening before after doors is end e none later ends =
    subst (λ ds. ServesOpened server address workers opening before after (map seen ds) is) (sym none)
    (subst (λ s. ServesOpened server address workers opening before after [] s) (sym e) (record { later = later; history = opening; ends = ends }))

-- a server that is the same
pub served_as : (a b : Role) (address : List ℕ) (workers : ℕ) (opening : List ReleaseData) (before after : SiteView) (doors : List DoorView) (is : Status)
    → a ≡ b → ServesOpened a address workers opening before after doors is → ServesOpened b address workers opening before after doors is
served_as a b address workers opening before after doors is same h =
    subst (λ server. ServesOpened server address workers opening before after doors is) same h

-- the network was called, and nothing else was done
pub called_later : (o : ConsoleView) (n m : NetworkView) (r : ℕ) → n.faults ≤ m.faults → LaterSite (site o n r) (site o m r)
called_later o n m r later = record { console = console_refl o; network = later; spawner = omega arith }
