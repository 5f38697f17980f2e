-- The shared word of a flag and its signs: what each of them knows, the rule that the word keeps,
-- and what a step on it tells.
use Rattle.std.specs.Prelude.{◌≡◌, ℕ, Bool, true, false, [], ◌∷◌}
use mathlib.Core.Option.{some}
use lib.ListN.{get_elem?}
use Rattle.atomic_table.specs.Seated.{TableId}
use Rattle.atomic_table.specs.Table.{State, Me, Step}
use Rattle.desk_pool.specs.declared.knows.Knows.{Knows}

-- what contracts see of a flag, and of a sign: which flag it is, or is of, and whether it was
-- raised, or was seen raised
pub record Sight : Type 0 where
  pub flag : TableId
  pub raised : Bool

abbrev pub sight : TableId → Me (Unit {0}) Knows → Sight
sight flag me = record { flag = flag; raised = me.0.raised }

abbrev pub knows : Bool → Bool → Knows
knows owns raised = record { owns = owns; raised = raised }

-- a flag that was just made
abbrev pub owner : Knows
owner = knows true false

-- giving a sign leaves the flag as it is, and the sign has seen nothing
abbrev pub shared_left : Knows → Knows
shared_left v = v

abbrev pub shared_right : Knows → Knows
shared_right v = knows false false

-- the word for a flag that was raised or not
abbrev pub word_of : Bool → ℕ
word_of true = 1
word_of false = 0

-- what the holder of a seat knows fits a flag that was raised or not: the flag itself, at its own
-- seat, knows which, and a sign has seen it raised only where it was
abbrev pub FitsFlag : Bool → Bool → Bool → ℕ → ℕ → Type 0
FitsFlag true raised is flag seat = (seat ≡ flag) × (raised ≡ is)
FitsFlag false raised is flag seat = raised ≡ true → is ≡ true

-- the rule: the word says whether the flag was raised, and what each seat knows fits that
pub record Holds (s : State (Unit {0}) Knows) : Type 0 where
  pub raised : Bool
  pub flag : ℕ
  pub words : s.words ≡ word_of raised ∷ []
  pub seats : (seat : ℕ) (v : Knows) → get_elem? s.views seat ≡ some v
      → FitsFlag v.owns v.raised raised flag seat

-- after raising it, the flag knows that it was raised
abbrev pub Raises : Step (Unit {0}) → Me (Unit {0}) Knows → ℕ → Me (Unit {0}) Knows → Type 0
Raises st m n m' = m' ≡ (knows true true, m.1)

-- a look finds the word of a flag that was raised or not, and the sign has seen which; what it has
-- seen before stays true
abbrev pub LooksAtFlag : Step (Unit {0}) → Me (Unit {0}) Knows → ℕ → Me (Unit {0}) Knows → Type 0
LooksAtFlag st m n m' =
    (raised : Bool) × (n ≡ word_of raised) × (m' ≡ (knows false raised, m.1))
    × (m.0.raised ≡ true → raised ≡ true)

-- a seat at a word of that table, of the flag itself or of a sign
pub record IsSeated (owns : Bool) (table seat : TableId) (me : Me (Unit {0}) Knows) : Type 0 where
  pub sized : table.words ≡ 1
  pub seated : seat ≡ table
  pub knows : me.0.owns ≡ owns
  pub empty : me.1 ≡ []
