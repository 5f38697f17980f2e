-- What one call of a stream that does not block gave or took. Of a stream that does not state its
-- bytes only the counts are said.
use Rattle.std.specs.Prelude.{◌≡◌, ℕ, ◌<◌, ◌≤◌, List, ◌++◌, length, take, Option}
use Rattle.std.specs.Io.KnownBytes.{Appends, Consumes, IsAtEnd, Keeps}
use Rattle.devices.specs.declared.socket.Received.{Received}
use Rattle.devices.specs.declared.socket.Received.TheVariants as received
use Rattle.devices.specs.declared.socket.Sent.{Sent}
use Rattle.devices.specs.declared.socket.Sent.TheVariants as sent

-- the bytes left begin with those that were received, and lose them; the end comes only if none are
-- left
abbrev pub Receives : Option (List ℕ) → Option (List ℕ) → Received → List ℕ → Type 0
Receives old new (received.Bytes n) room =
    (0 < n) × (n ≤ length room) × Consumes old new (take n room)
Receives old new received.Nothing room = Keeps old new
Receives old new received.End room = Keeps old new × IsAtEnd new
Receives old new received.Broken room = Keeps old new

-- the bytes that the stream took grow by those of the piece that were sent
abbrev pub Sends : Option (List ℕ) → Option (List ℕ) → Sent → List ℕ → Type 0
Sends old new (sent.Bytes n) piece = (0 < n) × (n ≤ length piece) × Appends old new (take n piece)
Sends old new sent.Nothing piece = Keeps old new
Sends old new sent.Broken piece = Keeps old new

-- all of the piece is held after what was held, or nothing of it
abbrev pub Holds : List ℕ → List ℕ → Sent → List ℕ → Type 0
Holds old new (sent.Bytes n) piece = (n ≡ length piece) × (new ≡ old ++ piece)
Holds old new sent.Nothing piece = ⊥
Holds old new sent.Broken piece = new ≡ old
