-- A connection that was served in several stretches, each read from the bytes that the one before
-- left.
use Rattle.std.specs.Prelude.{◌≡◌, ℕ, ◌+◌, ◌<◌, List, [], ◌∷◌, ◌++◌, length, map, flat_map, ⊤}
use Rattle.std.specs.Prelude.{false}
use Rattle.std.specs.List.{AllByRecursion}
use Rattle.http_answer.specs.declared.answer.Answer.{Answer}
use Rattle.http_request.specs.Asks.{Asks, Ending, Rest}
use Rattle.http_request.specs.declared.head.Head.{Head}
use Rattle.td_base.specs.declared.report.End.{End}
use Rattle.connection.specs.FaultCounts.{FaultCounts}
use Rattle.connection.specs.Replies.{IsOpen, is_last, replies, reply_at}
use Rattle.connection.specs.Served.{NeverFall, Served, Transcript}

-- ---- stretches

-- the stretch ended between two heads, each request of it was replied to, and none closed the
-- connection
pub record GoesOn (answer : ℕ → Head → Answer) (s : Transcript) : Type 0 where
  pub heads : List Head
  pub asks : Asks s.read heads (Rest [])
  pub open_after : IsOpen heads
  pub placed : length s.places ≡ length heads
  pub written : s.written ≡ replies answer heads s.places

abbrev pub AllGoOn : (answer : ℕ → Head → Answer) → List Transcript → Type 0
AllGoOn answer [] = ⊤
AllGoOn answer (s ∷ stretches) = GoesOn answer s × AllGoOn answer stretches

-- what is seen of the connection that these stretches and a last one make
abbrev pub joined_transcripts : List Transcript → Transcript → Transcript
joined_transcripts stretches last = record {
  read = flat_map (λ s. s.read) stretches ++ last.read;
  left = last.left;
  written = flat_map (λ s. s.written) stretches ++ last.written;
  places = flat_map (λ s. s.places) stretches ++ last.places;
}

-- ---- the whole connection

-- a request, and how many came before it in its stretch, which decides whether it is the last that
-- a stretch takes
pub record Request : Type 0 where
  pub before : ℕ
  pub head : Head

-- the requests of a stretch, the first of which comes after so many
abbrev pub numbered_requests : ℕ → List Head → List Request
numbered_requests n [] = []
numbered_requests n (head ∷ heads) =
    record { before = n; head = head } ∷ numbered_requests (n + 1) heads

-- the replies to requests, each answered at its place
abbrev pub replies_to : (answer : ℕ → Head → Answer) → List Request → List ℕ → List ℕ
replies_to answer [] places = []
replies_to answer (r ∷ requests) [] = []
replies_to answer (r ∷ requests) (place ∷ places) =
    reply_at answer r.before r.head place ++ replies_to answer requests places

-- a request after which the connection stays open
abbrev pub LeavesOpen : Request → Type 0
LeavesOpen r = is_last r.before r.head ≡ false

-- The bytes of a connection are those of some requests, none of which closes it, followed by those
-- of a stretch that was served: each of the requests was replied to at its place, in order, before
-- the replies of that stretch, which says how the connection ended. The heads that any reader finds
-- in the bytes of the stretch are those that follow the requests in all the bytes.
pub record IsServedWhole (answer : ℕ → Head → Answer) (count : ℕ) (s : Transcript)
    (before now : FaultCounts) (e : End) : Type 0 where
  pub requests : List Request
  pub earlier : Transcript
  pub last : Transcript
  pub open_after : AllByRecursion LeavesOpen requests
  pub read : s.read ≡ earlier.read ++ last.read
  pub left : s.left ≡ last.left
  pub written : s.written ≡ replies_to answer requests earlier.places ++ last.written
  pub places : s.places ≡ earlier.places ++ last.places
  pub placed : length earlier.places ≡ length requests
  pub rising : NeverFall s.places
  pub heads : (heads : List Head) (end : Ending) → Asks last.read heads end
      → Asks s.read (map (λ r. r.head) requests ++ heads) end
  pub served : Served answer count last before now e
