-- What is heard from a connection.
use Rattle.std.specs.Prelude.{◌≡◌, ℕ, ◌+◌, ◌-◌, ◌<◌, ◌≤◌, List, [], ◌∷◌, ◌++◌, length, IsTrue, ⊤}
use Rattle.std.specs.Prelude.{flat_map, Result, Ok, Err}
use Rattle.std.specs.Io.KnownBytes.{IsAtEnd}
use Rattle.http_request.specs.Asks.{Asks, Bad, Gives, Rest}
use Rattle.http_request.specs.Steps.{IsStep, Waiting}
use Rattle.http_request.specs.Taking.{IsRefusalStatus}
use Rattle.http_request.specs.declared.head.Head.{Head}
use Rattle.http_request.specs.declared.limits.TheConstants.{MOST_HEAD_BYTES}
use Rattle.td_base.specs.Views.{ConnView}
use Rattle.td_base.specs.TargetForm.{has_form}
use Rattle.td_base.specs.declared.no_memory.NoMemory.{NoMemory}
use Rattle.connection.specs.FaultCounts.{FaultCounts, ReadFailed, faults_of}
use Rattle.connection.specs.Replies.{IsOpen}
use Rattle.connection.specs.Served.{IsNeeded}
use Rattle.connection.specs.Traffic.{Passes, Traffic}
use Rattle.connection.specs.declared.hearing.Arrival.{Arrival}
use Rattle.connection.specs.declared.hearing.Arrival.TheVariants as arrival
use Rattle.connection.specs.declared.hearing.ReadPiece.{ReadPiece}
use Rattle.connection.specs.declared.hearing.ReadPiece.TheVariants as piece
use Rattle.connection.specs.declared.hearing.TheConstants.{PIECE}

-- how many bytes are held at most: a piece is read only while fewer are held than a head may have
abbrev pub most_held : ℕ
most_held = MOST_HEAD_BYTES - 1 + PIECE

-- one piece was read and is held from then on
pub record IsFed (before now : ConnView) (held new : List ℕ) : Type 0 where
  pub bytes : List ℕ
  pub some : 0 < length bytes
  pub small : length bytes ≤ PIECE
  pub passes : Passes before now bytes []
  pub held_is : new ≡ held ++ bytes
  pub gives : (all : List ℕ) (given : List Head)
      → Gives all given held → Gives (all ++ bytes) given new

-- nothing was read
pub record IsKept (before now : ConnView) (held new : List ℕ) : Type 0 where
  pub traffic : Traffic before now [] []
  pub held_is : new ≡ held

-- one piece was read, and is lost; the heads that were given stay given
pub record IsLost (before now : ConnView) (held : List ℕ) : Type 0 where
  pub bytes : List ℕ
  pub some : 0 < length bytes
  pub small : length bytes ≤ PIECE
  pub passes : Passes before now bytes []
  pub gives : (all : List ℕ) (given : List Head)
      → Gives all given held → Gives (all ++ bytes) given (held ++ bytes)

abbrev pub Feeds : ConnView → ConnView → List ℕ → List ℕ → ReadPiece → Type 0
Feeds before now held new piece.Fed = IsFed before now held new
Feeds before now held new piece.Ended =
    IsKept before now held new × IsAtEnd now.left × (faults_of now ≡ faults_of before)
Feeds before now held new piece.Failed =
    IsKept before now held new × ReadFailed (faults_of before) (faults_of now)
Feeds before now held new piece.NoMemory = IsLost before now held

-- what came after the heads that were given, of all the bytes that were read
abbrev pub Comes : ConnView → List ℕ → List Head → List ℕ → Result Arrival NoMemory → Type 0
Comes now all given held (Ok (arrival.Request head)) = Gives all (given ++ head ∷ []) held
Comes now all given held (Ok (arrival.Refused status)) = Asks all given (Bad status)
Comes now all given held (Ok arrival.Ended) = Asks all given (Rest held) × IsAtEnd now.left
Comes now all given held (Ok arrival.ReadFault) = Asks all given (Rest held)
Comes now all given held (Err fault) = (rest : List ℕ) × Gives all given rest

-- a read failed where that is heard, and nowhere else
abbrev pub Fails : FaultCounts → FaultCounts → Result Arrival NoMemory → Type 0
Fails before now (Ok arrival.ReadFault) = ReadFailed before now
Fails before now (Ok (arrival.Request head)) = now ≡ before
Fails before now (Ok (arrival.Refused status)) = now ≡ before
Fails before now (Ok arrival.Ended) = now ≡ before
Fails before now (Err fault) = now ≡ before

-- a request has a target that is served, and a refusal one of three statuses
abbrev pub IsFit : Result Arrival NoMemory → Type 0
IsFit (Ok (arrival.Request head)) = IsTrue (has_form head.target)
IsFit (Ok (arrival.Refused status)) = IsRefusalStatus status
IsFit (Ok arrival.Ended) = ⊤
IsFit (Ok arrival.ReadFault) = ⊤
IsFit (Err fault) = ⊤

-- each of the pieces, in order, was read where nothing stood yet in what was held by then
abbrev pub NeedsEach : List ℕ → List (List ℕ) → Type 0
NeedsEach held [] = ⊤
NeedsEach held (p ∷ ps) =
    IsStep held Waiting × (0 < length p) × (length p ≤ PIECE) × NeedsEach (held ++ p) ps

abbrev pub joined_reads : List (List ℕ) → List ℕ
joined_reads pieces = flat_map (λ p. p) pieces

-- some pieces were read, and this came
pub record Hears (before now : ConnView) (held new : List ℕ) (result : Result Arrival NoMemory)
    : Type 0 where
  pub pieces : List (List ℕ)
  pub traffic : Traffic before now (joined_reads pieces) []
  pub needs : NeedsEach held pieces
  pub comes : (all : List ℕ) (given : List Head) → Gives all given held
      → Comes now (all ++ joined_reads pieces) given new result
  pub needed : (all : List ℕ) (given : List Head) → Gives all given held → IsOpen given
      → IsNeeded all → IsNeeded (all ++ joined_reads pieces)
  pub fails : Fails (faults_of before) (faults_of now) result
  pub fit : IsFit result
