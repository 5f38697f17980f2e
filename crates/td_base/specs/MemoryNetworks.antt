-- What contracts see of a network in memory, and of one of which chosen calls fail.
use Rattle.std.specs.Prelude.{◌≡◌, ℕ, List, [], map, Option, None, Some}
use Rattle.std.specs.Option.{option_map}
use Rattle.td_base.specs.DoorViews.{DoorContent, DoorView, NetworkContent, NetworkView, Opening}
use Rattle.td_base.specs.Doors.{new_content}
use Rattle.td_base.specs.Memory.{FaultyState}
use Rattle.td_base.specs.Upstreams.{UpstreamView}
use Rattle.td_base.specs.declared.memory_network.Opened.{Opened}

-- the inputs of the connections that are still to come, none where nothing is told
abbrev pub coming_in : Option DoorContent → List (List ℕ)
coming_in None = []
coming_in (Some content) = content.coming

-- a door that tells its content and was not asked yet
pub record TellsNew (door : DoorView) : Type 0 where
  pub content : door.content ≡ Some (new_content (coming_in door.content))
  pub last : door.last ≡ None
  pub faults : door.faults ≡ 0

-- another server that tells its exchanges, of which there is none yet
pub record TellsNone (upstream : UpstreamView) : Type 0 where
  pub told : upstream.told ≡ Some []
  pub faults : upstream.faults ≡ 0

-- a network: the doors that it has, each by the inputs of its connections, and where it opened how
-- many; how many upstreams it has, and the addresses at which it gave one; how many calls it had,
-- and how many of them it did not grant, having too few
pub record MemoryNetworkState : Type 0 where
  pub doors : List (List (List ℕ))
  pub opened : List Opened
  pub upstreams : ℕ
  pub reached : List (List ℕ)
  pub calls : ℕ
  pub faults : ℕ

abbrev pub opening_of : Opened → Opening
opening_of o = record { address = o.address; doors = o.doors }

abbrev pub network_content : MemoryNetworkState → NetworkContent
network_content n = record {
  doors = n.doors;
  opened = map opening_of n.opened;
  upstreams = n.upstreams;
  reached = n.reached;
  calls = n.calls;
}

abbrev pub memory_network : MemoryNetworkState → NetworkView
memory_network n = record { content = Some (network_content n); faults = n.faults }

-- a network of which chosen calls fail: it tells what the network inside tells, and has its own
-- counts of calls and of faults
abbrev pub with_calls : ℕ → NetworkContent → NetworkContent
with_calls calls content = record content { calls = calls }

module _ {S : Type 0} where
  abbrev pub faulty_network : (S → NetworkView) → FaultyState S → NetworkView
  faulty_network seen s = record {
    content = option_map (with_calls s.calls.calls) (seen s.inner).content;
    faults = s.calls.faults;
  }
