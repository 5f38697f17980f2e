-- Calls of a connection, one after another, each from where the one before ended.
use Rattle.std.specs.Prelude.{◌≡◌, ℕ, List, [], ◌∷◌, ◌++◌, take, Option, Some, ⊤}
use Rattle.td_base.specs.Outside.{WriteTells}
use Rattle.td_base.specs.declared.outside.ReadStep.{ReadStep}
use Rattle.td_base.specs.declared.outside.ReadStep.TheVariants as read
use Rattle.td_base.specs.declared.outside.WriteStep.{WriteStep}
use Rattle.td_base.specs.declared.outside.WriteStep.TheVariants as write
use Rattle.devices.specs.Flows.{GivesStep}

-- ---- reads

-- a read, and what its room holds after it
pub record ReadCall : Type 0 where
  pub step : ReadStep
  pub room : List ℕ

-- by the bytes that are still to be given, before the calls and after them
abbrev pub Reads : Option (List ℕ) → List ReadCall → Option (List ℕ) → Type 0
Reads old [] now = now ≡ old
Reads old (call ∷ calls) now =
    (next : Option (List ℕ)) × GivesStep old next call.step call.room × Reads next calls now

abbrev pub given_by : ReadStep → List ℕ → List ℕ → List ℕ
given_by (read.Got n) room later = take n room ++ later
given_by read.End room later = later
given_by read.Failed room later = []

-- the bytes that the reads gave, up to one that failed
abbrev pub given_bytes : List ReadCall → List ℕ
given_bytes [] = []
given_bytes (call ∷ calls) = given_by call.step call.room (given_bytes calls)

abbrev pub is_sound : ReadStep → Type 0
is_sound (read.Got n) = ⊤
is_sound read.End = ⊤
is_sound read.Failed = ⊥

abbrev pub AreSound : List ReadCall → Type 0
AreSound [] = ⊤
AreSound (call ∷ calls) = is_sound call.step × AreSound calls

-- the bytes are those that were given, and then others; where no read failed, these are still to be
-- given
pub record HasGiven (bytes : List ℕ) (calls : List ReadCall) (now : Option (List ℕ)) : Type 0 where
  pub rest : List ℕ
  pub parts : bytes ≡ given_bytes calls ++ rest
  pub left : AreSound calls → now ≡ Some rest

-- ---- writes

-- a write of a piece
pub record WriteCall : Type 0 where
  pub step : WriteStep
  pub piece : List ℕ

-- by the bytes that were written, before the calls and after them
abbrev pub Writes : Option (List ℕ) → List WriteCall → Option (List ℕ) → Type 0
Writes old [] now = now ≡ old
Writes old (call ∷ calls) now =
    (next : Option (List ℕ)) × WriteTells old next call.step call.piece × Writes next calls now

abbrev pub taken_by : WriteStep → List ℕ → List ℕ
taken_by (write.Took n) piece = take n piece
taken_by write.Failed piece = []

-- the bytes that the writes took
abbrev pub taken_bytes : List WriteCall → List ℕ
taken_bytes [] = []
taken_bytes (call ∷ calls) = taken_by call.step call.piece ++ taken_bytes calls
