-- What contracts see of the objects in memory.
use Rattle.std.specs.Prelude.{◌≡◌, ℕ, ◌+◌, ◌-◌, ◌^◌, List, [], ◌∷◌, take, min, max, ⊤, Bool, true}
use Rattle.std.specs.Prelude.{false, if◌then◌else◌, Some, nat_eq}
use Rattle.std.specs.List.{list_any}
use Rattle.td_base.specs.Views.{SourceView, SinkView, StoreView, ConnView, one_more}
use Rattle.td_base.specs.declared.outside.FileRead.{FileRead}
use Rattle.td_base.specs.declared.outside.FileRead.TheVariants as file
use Rattle.td_base.specs.declared.spawner.Begin.{Begin}
use Rattle.td_base.specs.declared.spawner.Begin.TheVariants as begin

-- ---- sizes of pieces

-- how much a call moves that could move so much: what the next size says, at least 1, or all where
-- no size is left
abbrev pub piece_size : List ℕ → ℕ → ℕ
piece_size [] most = most
piece_size (size ∷ sizes) most = min (max size 1) most

-- ---- sources and sinks

-- a source: the bytes that its reads have given, those left, and the sizes of the next pieces
pub record SourceState : Type 0 where
  pub given : List ℕ
  pub left : List ℕ
  pub sizes : List ℕ

abbrev pub source_view : SourceState → SourceView
source_view s = record { left = Some s.left; faults = 0 }

-- a sink: the bytes taken, how many more it can take, how many writes failed, and the sizes of the
-- next pieces
pub record SinkState : Type 0 where
  pub taken : List ℕ
  pub room : ℕ
  pub faults : ℕ
  pub sizes : List ℕ

abbrev pub sink_view : SinkState → SinkView
sink_view s = record { taken = Some s.taken; faults = s.faults }

-- ---- calls that fail

-- the calls on an object of which some are to fail: the numbers of these, counted from 1, how many
-- calls were made, and how many of them failed
pub record CallState : Type 0 where
  pub failing : List ℕ
  pub calls : ℕ
  pub faults : ℕ

-- the next call is to fail
abbrev pub is_chosen : CallState → Bool
is_chosen s = list_any (nat_eq (one_more s.calls)) s.failing

-- after one more call, which failed or did not
abbrev pub counted : CallState → Bool → CallState
counted s failed = record {
  failing = s.failing;
  calls = one_more s.calls;
  faults = if failed then one_more s.faults else s.faults;
}

abbrev pub is_refused_begin : Begin → Bool
is_refused_begin begin.InThread = false
is_refused_begin begin.AtJoin = false
is_refused_begin begin.Refused = true

-- an object of which chosen calls fail: the object inside, and its calls
pub record FaultyState (S : Type 0) : Type 0 where
  pub inner : S
  pub calls : CallState

-- it tells what the object inside tells, and has its own count of faults
module _ {S : Type 0} where
  abbrev pub faulty_source : (S → SourceView) → FaultyState S → SourceView
  faulty_source seen s = record { left = (seen s.inner).left; faults = s.calls.faults }

  abbrev pub faulty_sink : (S → SinkView) → FaultyState S → SinkView
  faulty_sink seen s = record { taken = (seen s.inner).taken; faults = s.calls.faults }

  abbrev pub faulty_store : (S → StoreView) → FaultyState S → StoreView
  faulty_store seen s = record { files = (seen s.inner).files; faults = s.calls.faults }

-- a connection of which chosen reads and chosen writes fail
pub record FaultyConnState (S : Type 0) : Type 0 where
  pub inner : S
  pub reads : CallState
  pub writes : CallState

module _ {S : Type 0} where
  abbrev pub faulty_conn : (S → ConnView) → FaultyConnState S → ConnView
  faulty_conn seen s = record (seen s.inner) {
    read_faults = s.reads.faults;
    write_faults = s.writes.faults;
  }

-- ---- stores

-- what reading at most so many bytes of a file in memory gives
abbrev pub IsPrefixRead : List ℕ → ℕ → FileRead → Type 0
IsPrefixRead bytes most (file.Found prefix) = prefix ≡ take most bytes
IsPrefixRead bytes most file.Absent = ⊥
IsPrefixRead bytes most file.Failed = ⊥
IsPrefixRead bytes most file.NoMemory = ⊤
