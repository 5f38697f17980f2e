-- Onsets of parts in a range, each with the place of its part, and the state that they tell.
use Rattle.std.specs.Prelude.{◌≡◌, ◌≢◌, ◌⊎◌, ℕ, ◌≤◌, ◌<◌, List, ◌++◌, length, slice_index_or}
use Rattle.std.specs.Prelude.{Bool, true}
use Rattle.std.specs.Prelude.{◌&&◌, int_lt, ℤ, pos, ◌+ℤ◌, ◌-ℤ◌, ◌≤ℤ◌, ◌<ℤ◌, unsigned_abs}
use Rattle.std.specs.List.{Contains}
use Rattle.td_civil.specs.declared.moment_type.TheConstants.{LO}
use Rattle.td_civil.specs.declared.local_time.Local.{Local}
use Rattle.recurrence.specs.declared.part_types.Part.{Part}
use Rattle.vtimezone_reader.specs.declared.turns.PartOnset.{PartOnset}
use Rattle.vtimezone_reader.specs.Observing.{any_onset}
use Rattle.vtimezone_reader.specs.Onsets.{calendar_state, has_onset, is_onset_of}

abbrev pub turn_at : ℤ → ℕ → PartOnset
turn_at m place = record { onset = record { seconds = m }; part = place }

-- at a place, after t and before the end, and at a moment that passes the test
pub record IsTurnOf (test : ℤ → Bool) (place : ℕ) (t end : ℤ) (x : PartOnset) : Type 0 where
  pub part_is : x.part ≡ place
  pub passes : test x.onset.seconds ≡ true
  pub after : t <ℤ x.onset.seconds
  pub before : x.onset.seconds <ℤ end

-- the list has grown by turns at that place, one at each moment that passes the test
pub record AddsTurns (test : ℤ → Bool) (place : ℕ) (t end : ℤ)
    (old new : List PartOnset) : Type 0 where
  pub added : List PartOnset
  pub is : new ≡ old ++ added
  pub each : (x : PartOnset) → Contains added x → IsTurnOf test place t end x
  pub every : (v : ℤ) → t <ℤ v → v <ℤ end → test v ≡ true → Contains added (turn_at v place)

-- the rule falls there, after the part's start
abbrev pub falls_later : Part → ℤ → Bool
falls_later p v = int_lt p.start.seconds v && is_onset_of p.rule p v

-- a turn of one of the first n parts
pub record IsTurnAmong (parts : List Part) (n : ℕ) (t end : ℤ) (x : PartOnset) : Type 0 where
  pub inside : x.part < n
  pub passes : (d : Part) → has_onset (slice_index_or parts x.part d) x.onset.seconds ≡ true
  pub after : t <ℤ x.onset.seconds
  pub before : x.onset.seconds <ℤ end

-- all onsets of the first n parts after t and before the end
pub record AreTurns (parts : List Part) (n : ℕ) (t end : ℤ) (turns : List PartOnset) : Type 0 where
  pub each : (x : PartOnset) → Contains turns x → IsTurnAmong parts n t end x
  pub every : (place : ℕ) (v : ℤ) → place < n → t <ℤ v → v <ℤ end
      → ((d : Part) → has_onset (slice_index_or parts place d) v ≡ true)
      → Contains turns (turn_at v place)

-- the seconds from the first moment that has a meaning
abbrev pub since : PartOnset → ℕ
since x = unsigned_abs (x.onset.seconds -ℤ LO)

-- the first n turns are not after m, and those that follow are
pub record HaveCome (turns : List PartOnset) (m : ℤ) (n : ℕ) : Type 0 where
  pub bound : n ≤ length turns
  pub past : (k : ℕ) (d : PartOnset) → k < n → (slice_index_or turns k d).onset.seconds ≤ℤ m
  pub ahead : (k : ℕ) (d : PartOnset) → n ≤ k → k < length turns
      → m <ℤ (slice_index_or turns k d).onset.seconds

-- the turns from one place of the list to before another are all at m, and this is the later part
-- among theirs
pub record AreAt (turns : List PartOnset) (from to : ℕ) (m : ℤ) (part : ℕ) : Type 0 where
  pub after : from < to
  pub bound : to ≤ length turns
  pub same : (k : ℕ) (d : PartOnset) → from ≤ k → k < to
      → (slice_index_or turns k d).onset.seconds ≡ m
  pub most : (k : ℕ) (d : PartOnset) → from ≤ k → k < to → (slice_index_or turns k d).part ≤ part
  pub one : Contains turns (turn_at m part)

-- and no turn at m follows them
pub record AreTogether (turns : List PartOnset) (from to : ℕ) (m : ℤ) (part : ℕ) : Type 0 where
  pub at : AreAt turns from to m part
  pub ended : (d : PartOnset) → to < length turns → (slice_index_or turns to d).onset.seconds ≢ m

-- an onset of the part that is not after t
pub record IsOnsetBy (p : Part) (t m : ℤ) : Type 0 where
  pub onset : has_onset p m ≡ true
  pub by : m ≤ℤ t
  pub low : LO ≤ℤ m

-- a moment at which some part has an onset, that is not after t and not before all meaning
pub record HasBegun (parts : List Part) (t m : ℤ) : Type 0 where
  pub onset : any_onset parts m ≡ true
  pub by : m ≤ℤ t
  pub low : LO ≤ℤ m

-- the second before such a moment, or before all meaning
abbrev pub IsBeforeOnset : List Part → ℤ → ℤ → Type 0
IsBeforeOnset parts t m = (m ≡ LO -ℤ pos 1) ⊎ HasBegun parts t (m +ℤ pos 1)

-- the state at m, or any where m is the second before an onset
abbrev pub IsStateOr : List Part → ℤ → ℤ → Local → Type 0
IsStateOr parts t m state = (state ≡ calendar_state parts m) ⊎ HasBegun parts t (m +ℤ pos 1)
