-- What a connection holds between its stream and those who read and write it: no byte is lost, and
-- none changes its place.
use Rattle.std.specs.Prelude.{◌≡◌, ◌⊎◌, ℕ, ◌<◌, ◌≤◌, List, length, ◌++◌, take, Option, ⊤}
use Rattle.std.specs.Prelude.{Bool, true, false, ◌&&◌, ◌==◌, nat_lt}
use Rattle.std.specs.Io.KnownBytes.{Consumes, Keeps, append_known, prepend_known}
use Rattle.stretches.specs.Fronts.{front_length}
use Rattle.stretches.specs.Turns.{is_spent}
use Rattle.stretches.specs.declared.turn.WorkerTurn.{WorkerTurn}
use Rattle.td_base.specs.declared.outside.ReadStep.{ReadStep}
use Rattle.td_base.specs.declared.outside.ReadStep.TheVariants as read
use Rattle.devices.specs.declared.incoming.Given.{Given}
use Rattle.devices.specs.declared.incoming.Given.TheVariants as given
use Rattle.devices.specs.declared.incoming.Incoming.{Incoming}
use Rattle.devices.specs.declared.outgoing.Outgoing.{Outgoing}
use Rattle.devices.specs.declared.outgoing.TheConstants.{STRETCH_BYTES}

-- the bytes still to be given: those that came and were not given yet, and then those that the
-- stream will give
abbrev pub to_give : Incoming → Option (List ℕ) → Option (List ℕ)
to_give incoming remaining = prepend_known incoming.intake.bytes remaining

-- the bytes that were written: those that the stream took, and then those that are held
abbrev pub written : Outgoing → Option (List ℕ) → Option (List ℕ)
written outgoing contents = append_known contents outgoing.unsent.rest

-- a stretch may go on: all that was written went out, and it was not much
abbrev pub is_open : Outgoing → Bool
is_open outgoing = (length outgoing.unsent.rest == 0) && nat_lt outgoing.count STRETCH_BYTES

-- a stretch ends only if it may not go on, between two heads if by the clock its turn is spent, or
-- if a server could only wait for more bytes
abbrev pub EndsStretch : Outgoing → WorkerTurn → Incoming → Type 0
EndsStretch outgoing turn incoming = (is_open outgoing ≡ false)
    ⊎ ((is_spent turn ≡ true) × (incoming.intake.ready ≡ 0))
    ⊎ (front_length incoming.intake.bytes ≡ 0)

-- the bytes still to be given begin with those that a read in a stretch gave, and lose them; the
-- stretch ends with all of them kept
abbrev pub Gives : Option (List ℕ) → Option (List ℕ) → Given → List ℕ → Type 0
Gives old new (given.Bytes n) room = (0 < n) × (n ≤ length room) × Consumes old new (take n room)
Gives old new given.End room = Keeps old new
Gives old new given.Broken room = ⊤

-- the same, only of what is held
abbrev pub GivesHeld : Incoming → Incoming → Given → List ℕ → Type 0
GivesHeld old new (given.Bytes n) room = (0 < n) × (n ≤ length room)
    × (take n room ++ new.intake.bytes ≡ old.intake.bytes) × (old.broken ≡ false)
GivesHeld old new given.End room = (new.intake.bytes ≡ old.intake.bytes) × (old.broken ≡ false)
    × (front_length new.intake.bytes ≡ 0)
GivesHeld old new given.Broken room = ⊤

-- the same, as a step of a connection
abbrev pub GivesStep : Option (List ℕ) → Option (List ℕ) → ReadStep → List ℕ → Type 0
GivesStep old new (read.Got n) room = Consumes old new (take n room)
GivesStep old new read.End room = Keeps old new
GivesStep old new read.Failed room = ⊤
