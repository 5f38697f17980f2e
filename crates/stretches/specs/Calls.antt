-- What any calls of an intake, one after another, do with the bytes of a connection.
use Rattle.std.specs.Prelude.{◌≡◌, ℕ, ◌<◌, List, [], ◌∷◌, ◌++◌, length, take, All, flat_map}
use Rattle.stretches.specs.Fronts.{front_length}
use Rattle.stretches.specs.Intakes.{Came, Gives, ready_after}

-- a piece is appended, what came is looked at, or so many bytes are given into a room
pub data Call : Type 0 where
  append : List ℕ → Call
  look : Call
  give : (room : List ℕ) (count : ℕ) → Call

-- what a call does, in the words of its contract
abbrev pub Does : Came → Call → Came → Type 0
Does old (append piece) new = new ≡ record old { bytes = old.bytes ++ piece }
Does old look new = new ≡ record old { ready = ready_after old }
Does old (give room count) new = Gives old new room count

abbrev pub DoesAll : Came → List Call → Came → Type 0
DoesAll old [] new = new ≡ old
DoesAll old (call ∷ calls) new = (next : Came) × Does old call next × DoesAll next calls new

-- nothing came yet
abbrev pub nothing : Came
nothing = record { bytes = []; ready = 0 }

-- all that came in these calls
abbrev pub all_come : List Call → List ℕ
all_come [] = []
all_come (append piece ∷ calls) = piece ++ all_come calls
all_come (look ∷ calls) = all_come calls
all_come (give room count ∷ calls) = all_come calls

-- all that was given in them
abbrev pub all_given : List Call → List ℕ
all_given [] = []
all_given (append piece ∷ calls) = all_given calls
all_given (look ∷ calls) = all_given calls
all_given (give room count ∷ calls) = take count room ++ all_given calls

-- bytes that are a front as they stand: a whole head, or bytes of which no head can come
abbrev pub IsFront : List ℕ → Type 0
IsFront bytes = (0 < front_length bytes) × (front_length bytes ≡ length bytes)

-- bytes that are fronts, one behind another
abbrev pub AreFronts : List ℕ → Type 0
AreFronts bytes = (fronts : List (List ℕ)) × All IsFront fronts × (flat_map (λ f. f) fronts ≡ bytes)
