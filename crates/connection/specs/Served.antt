-- How a connection was served: what was written, by what was read, and why it ended. It is said
-- over any history and any way to answer a request at a place of it.
use Rattle.std.specs.Prelude.{◌≡◌, ℕ, ◌≤◌, ◌⊎◌, List, [], ◌∷◌, ◌++◌, length, take, true, ⊤}
use Rattle.std.specs.Prelude.{Option}
use Rattle.std.specs.Io.KnownBytes.{IsAtEnd}
use Rattle.std.specs.List.{AllByRecursion}
use Rattle.http_answer.specs.Replies.{fixed}
use Rattle.http_answer.specs.declared.answer.Answer.{Answer}
use Rattle.http_request.specs.Asks.{Asks, Bad, Gives, Rest}
use Rattle.http_request.specs.declared.head.Head.{Head}
use Rattle.td_base.specs.declared.report.End.{End}
use Rattle.td_base.specs.declared.report.End.TheVariants as end
use Rattle.connection.specs.FaultCounts.{FaultCounts, ReadFailed, WriteFailed}
use Rattle.connection.specs.Replies.{IsOpen, is_last, replies, reply_at}
use Rattle.connection.specs.declared.hearing.TheConstants.{PIECE}

-- what is seen of a connection that was served: the bytes that its reads gave, those left where
-- it tells them, the bytes written, and the place of each request
pub record Transcript : Type 0 where
  pub read : List ℕ
  pub left : Option (List ℕ)
  pub written : List ℕ
  pub places : List ℕ

-- Of the bytes alone, whatever was written by then: before the last piece, the heads that stood
-- whole left the connection open, and no head was refused.
pub record IsNeeded (read : List ℕ) : Type 0 where
  pub earlier : List ℕ
  pub piece : List ℕ
  pub read_is : read ≡ earlier ++ piece
  pub small : length piece ≤ PIECE
  pub heads : List Head
  pub held : List ℕ
  pub asks : Asks earlier heads (Rest held)
  pub open_after : IsOpen heads

-- places of a history of so many releases, which never fall
abbrev pub NeverFall : List ℕ → Type 0
NeverFall [] = ⊤
NeverFall (p ∷ ps) = AllByRecursion (λ q. p ≤ q) ps × NeverFall ps

pub record ArePlaces (count : ℕ) (places : List ℕ) : Type 0 where
  pub within : AllByRecursion (λ p. (1 ≤ p) × (p ≤ count)) places
  pub rising : NeverFall places

-- why nothing more is answered: the last of the requests closes the connection; the next head is
-- refused; or the input ended, whether between two heads or inside one
pub data Finish : Type 0 where
  ByRequest : Finish
  ByRefusal : (status : ℕ) → Finish
  ByInput : Finish

-- the connection is open after the requests before the last, and closes after that
pub record ClosesLast (read : List ℕ) (heads : List Head) : Type 0 where
  pub before : List Head
  pub last : Head
  pub held : List ℕ
  pub heads_are : heads ≡ before ++ last ∷ []
  pub gives : Gives read heads held
  pub open_before : IsOpen before
  pub closes : is_last (length before) last ≡ true

abbrev pub FinishesBy : Transcript → List Head → Finish → Type 0
FinishesBy s heads ByRequest = ClosesLast s.read heads
FinishesBy s heads (ByRefusal status) = Asks s.read heads (Bad status) × IsOpen heads
FinishesBy s heads ByInput =
    (held : List ℕ) × Asks s.read heads (Rest held) × IsOpen heads × IsAtEnd s.left

-- what is written after the replies
abbrev pub farewell : Finish → List ℕ
farewell ByRequest = []
farewell (ByRefusal status) = fixed status
farewell ByInput = []

-- The connection was closed: each request of the bytes was replied to, up to the one that closes
-- it, a refusal follows where one comes, and no read and no write failed.
pub record IsClosed (answer : ℕ → Head → Answer) (s : Transcript) (before now : FaultCounts)
    : Type 0 where
  pub heads : List Head
  pub finish : Finish
  pub finishes : FinishesBy s heads finish
  pub placed : length s.places ≡ length heads
  pub written : s.written ≡ replies answer heads s.places ++ farewell finish
  pub steady : now ≡ before

-- A read failed: each request that had come was replied to, and none closed the connection.
pub record IsReadFault (answer : ℕ → Head → Answer) (s : Transcript) (before now : FaultCounts)
    : Type 0 where
  pub heads : List Head
  pub held : List ℕ
  pub asks : Asks s.read heads (Rest held)
  pub open_after : IsOpen heads
  pub placed : length s.places ≡ length heads
  pub written : s.written ≡ replies answer heads s.places
  pub cause : ReadFailed before now

-- a reply was cut: those before it are whole
pub record CutsReply (answer : ℕ → Head → Answer) (s : Transcript) : Type 0 where
  pub before : List Head
  pub last : Head
  pub held : List ℕ
  pub gives : Gives s.read (before ++ last ∷ []) held
  pub open_before : IsOpen before
  pub places : List ℕ
  pub place : ℕ
  pub placed : (length places ≡ length before) × (s.places ≡ places ++ place ∷ [])
  pub sent : ℕ
  pub written : s.written
      ≡ replies answer before places ++ take sent (reply_at answer (length before) last place)

-- a refusal was cut: all replies before it are whole
pub record CutsRefusal (answer : ℕ → Head → Answer) (s : Transcript) : Type 0 where
  pub heads : List Head
  pub status : ℕ
  pub asks : Asks s.read heads (Bad status)
  pub open_after : IsOpen heads
  pub placed : length s.places ≡ length heads
  pub sent : ℕ
  pub written : s.written ≡ replies answer heads s.places ++ take sent (fixed status)

-- A write failed: what it wrote of is cut, and all before that is whole.
pub record IsWriteFault (answer : ℕ → Head → Answer) (s : Transcript) (before now : FaultCounts)
    : Type 0 where
  pub cut : CutsReply answer s ⊎ CutsRefusal answer s
  pub cause : WriteFailed before now

-- the requests that were replied to; and one more that was begun, if it has a place
abbrev pub Begins : List ℕ → List Head → List ℕ → Type 0
Begins read heads [] = (held : List ℕ) × Gives read heads held
Begins read heads (place ∷ []) =
    (next : Head) × (held : List ℕ) × Gives read (heads ++ next ∷ []) held
Begins read heads (place ∷ other ∷ places) = ⊥

-- Memory ran out: requests were replied to, none of which closed the connection.
pub record IsStarved (answer : ℕ → Head → Answer) (s : Transcript) : Type 0 where
  pub heads : List Head
  pub places : List ℕ
  pub begun : List ℕ
  pub begins : Begins s.read heads begun
  pub open_after : IsOpen heads
  pub placed : (length places ≡ length heads) × (s.places ≡ places ++ begun)
  pub written : s.written ≡ replies answer heads places

-- after these bytes the reply that tells of it was written, or a prefix of it where a write failed
abbrev pub IsTold : List ℕ → List ℕ → FaultCounts → FaultCounts → Type 0
IsTold replied written before now =
    ((written ≡ replied ++ fixed 503) × (now ≡ before))
    ⊎ ((sent : ℕ) × (written ≡ replied ++ take sent (fixed 503)) × WriteFailed before now)

-- memory ran out, and that was told
pub record IsOutOfMemory (answer : ℕ → Head → Answer) (s : Transcript) (before now : FaultCounts)
    : Type 0 where
  pub replied : List ℕ
  pub starved : IsStarved answer (record s { written = replied })
  pub told : IsTold replied s.written before now

abbrev pub EndsSo : (answer : ℕ → Head → Answer) → Transcript → (before now : FaultCounts) → End
    → Type 0
EndsSo answer s before now end.Closed = IsClosed answer s before now
EndsSo answer s before now end.ReadFault = IsReadFault answer s before now
EndsSo answer s before now end.WriteFault = IsWriteFault answer s before now
EndsSo answer s before now end.NoMemory = IsOutOfMemory answer s before now

-- The connection was served over a history of so many releases, while its counts of failed reads
-- and failed writes went from the first to the second.
pub record Served (answer : ℕ → Head → Answer) (count : ℕ) (s : Transcript)
    (before now : FaultCounts) (e : End) : Type 0 where
  pub needed : IsNeeded s.read
  pub places : ArePlaces count s.places
  pub ends : EndsSo answer s before now e
