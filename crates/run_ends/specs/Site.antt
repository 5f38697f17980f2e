-- What a talk with an operator, and serving doors beside it, are over, and which objects are lent
-- for that.
use Rattle.std.specs.Prelude.{◌≤◌, ℕ}
use Rattle.td_base.specs.Views.{LaterSink, LaterSource, SinkView, SourceView, StoreView}
use Rattle.td_base.specs.DoorViews.{NetworkView}
use Rattle.run_ends.specs.Feeds.{FeedView, LaterFeed}
use Rattle.run_ends.specs.Outside.{World, outside, world}
use Rattle.run_ends.specs.declared.site.RunIo.{RunIo}

-- an operator's console: what the history grows by, the input and the output
pub record ConsoleView : Type 0 where
  pub feed : FeedView
  pub input : SourceView
  pub output : SinkView

abbrev pub console : FeedView → SourceView → SinkView → ConsoleView
console feed input output = record { feed = feed; input = input; output = output }

-- any calls were made
pub record LaterConsole (before after : ConsoleView) : Type 0 where
  pub feed : LaterFeed before.feed after.feed
  pub input : LaterSource before.input after.input
  pub output : LaterSink before.output after.output

-- a console with the network and the spawner, of which the latter tells how often it failed
pub record SiteView : Type 0 where
  pub console : ConsoleView
  pub network : NetworkView
  pub spawner : ℕ

abbrev pub site : ConsoleView → NetworkView → ℕ → SiteView
site console network spawner = record { console = console; network = network; spawner = spawner }

-- what a history grows by, in a world
abbrev pub site_in : FeedView → World → SiteView
site_in feed w = record {
  console = record { feed = feed; input = w.outside.input; output = w.outside.output };
  network = w.network;
  spawner = w.spawner;
}

-- any calls were made
pub record LaterSite (before after : SiteView) : Type 0 where
  pub console : LaterConsole before.console after.console
  pub network : before.network.faults ≤ after.network.faults
  pub spawner : before.spawner ≤ after.spawner

-- what is seen of the objects that were lent, with what the history grows by
abbrev pub site_of : {C K N W : Type 0} → FeedView → (C → SourceView) → (K → SinkView)
    → (N → NetworkView) → (W → ℕ) → RunIo C K N W → SiteView
site_of feed input output network spawner s =
    site (console feed (input s.input.now) (output s.output.now)) (network s.net.now)
    (spawner s.spawner.now)

-- with a store
abbrev pub world_of : {C K N W : Type 0} → StoreView → (C → SourceView) → (K → SinkView)
    → (N → NetworkView) → (W → ℕ) → RunIo C K N W → World
world_of store input output network spawner s =
    world (outside store (input s.input.now) (output s.output.now)) (network s.net.now)
    (spawner s.spawner.now)

-- which objects these are
abbrev pub site_names : {C K N W : Type 0} → RunIo C K N W → ℕ × ℕ × ℕ × ℕ
site_names s =
    (s.input.ghost_name, s.output.ghost_name, s.net.ghost_name, s.spawner.ghost_name)
