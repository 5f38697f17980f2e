-- What becomes of a desk while a connection is served: it enters once for each request, before that
-- is answered.
use Rattle.std.specs.Prelude.{◌≡◌, ◌≤◌, ◌⊎◌, ℕ, ◌+◌, List, [], ◌∷◌, length, true}
use Rattle.std.specs.Prelude.{Result, Ok, Err}
use mathlib.Core.List.{IsPrefix}
use Rattle.publication.specs.Views.{DeskView}
use Rattle.td_base.specs.declared.no_memory.NoMemory.{NoMemory}
use Rattle.td_base.specs.declared.report.End.{End}
use Rattle.td_base.specs.declared.report.End.TheVariants as end

module _ {V : Type 0} where
  -- the desk is of the same pair, has seen all that it had seen, and nothing more once that has
  -- ended
  pub record GoesOn (before now : DeskView V) : Type 0 where
    pub pair : now.pair ≡ before.pair
    pub longer : IsPrefix before.seen now.seen
    pub ended : before.ended ≡ true → (now.seen ≡ before.seen) × (now.ended ≡ true)

  -- one enter, after which the desk holds the value of that step, at this place
  pub record EntersAt (before : DeskView V) (place : ℕ) (now : DeskView V) : Type 0 where
    pub enters : now.enters ≡ before.enters + 1
    pub holds : now.seen ≡ now.entered
    pub place_is : place ≡ length now.seen
    pub goes_on : GoesOn before now

  -- an enter that was refused, with or without a step
  pub record IsRefused (before now : DeskView V) : Type 0 where
    pub enters : (before.enters ≤ now.enters) × (now.enters ≤ before.enters + 1)
    pub seen : now.seen ≡ before.seen
    pub goes_on : GoesOn before now

  -- one enter for each place
  abbrev pub EntersEach : DeskView V → List ℕ → DeskView V → Type 0
  EntersEach before [] now = now ≡ before
  EntersEach before (place ∷ places) now =
      (next : DeskView V) × EntersAt before place next × EntersEach next places now

  -- and, where memory ran out, perhaps one more that was refused
  abbrev pub EntersFor : DeskView V → List ℕ → DeskView V → End → Type 0
  EntersFor before places now end.NoMemory =
      (last : DeskView V) × EntersEach before places last × ((now ≡ last) ⊎ IsRefused last now)
  EntersFor before places now end.Closed = EntersEach before places now
  EntersFor before places now end.ReadFault = EntersEach before places now
  EntersFor before places now end.WriteFault = EntersEach before places now

  -- one enter for each place, and perhaps one more where memory ran out
  abbrev pub EntersUpTo : DeskView V → List ℕ → DeskView V → Result End NoMemory → Type 0
  EntersUpTo before places now (Ok e) = EntersEach before places now
  EntersUpTo before places now (Err fault) = EntersFor before places now end.NoMemory

abbrev pub one_if_starved : End → ℕ
one_if_starved end.Closed = 0
one_if_starved end.ReadFault = 0
one_if_starved end.WriteFault = 0
one_if_starved end.NoMemory = 1

-- the number of enters rose by that of the places, or, where memory ran out, perhaps by one more
abbrev pub HasCounted : ℕ → List ℕ → ℕ → End → Type 0
HasCounted before places now e =
    (before + length places ≤ now) × (now ≤ before + length places + one_if_starved e)
