-- What a run sees of the outside at one moment: the store of files, the input and the output, and
-- with these the network and the spawner.
use Rattle.std.specs.Prelude.{◌≡◌, ℕ, ◌≤◌}
use Rattle.td_base.specs.Views.{LaterStore, LaterSource, LaterSink, StoreView, SourceView, SinkView}
use Rattle.td_base.specs.DoorViews.{NetworkView}

-- the store, the input and the output
pub record Outside : Type 0 where
  pub store : StoreView
  pub input : SourceView
  pub output : SinkView

abbrev pub outside : StoreView → SourceView → SinkView → Outside
outside store input output = record { store = store; input = input; output = output }

-- any calls were made: no file changed, the input was only read, the output only written, and no
-- count of faults fell
pub record Later (before after : Outside) : Type 0 where
  pub store : LaterStore before.store after.store
  pub input : LaterSource before.input after.input
  pub output : LaterSink before.output after.output

-- nothing was read of the input or written to the output
abbrev pub LeavesStreams : Outside → Outside → Type 0
LeavesStreams before after = (after.input ≡ before.input) × (after.output ≡ before.output)

-- these with the network and the spawner, of which the latter tells how often it failed
pub record World : Type 0 where
  pub outside : Outside
  pub network : NetworkView
  pub spawner : ℕ

abbrev pub world : Outside → NetworkView → ℕ → World
world outside network spawner = record { outside = outside; network = network; spawner = spawner }

-- any calls were made
pub record LaterWorld (before after : World) : Type 0 where
  pub outside : Later before.outside after.outside
  pub network : before.network.faults ≤ after.network.faults
  pub spawner : before.spawner ≤ after.spawner
