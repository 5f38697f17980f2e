-- One turn of a talk with an operator, by its parts.
use Rattle.std.specs.Prelude.{◌≡◌, ◌≤◌, ◌+◌, ℕ, List, [], ◌∷◌, ◌++◌, length, ⊤, Option, None, Some}
use Rattle.std.specs.Io.KnownBytes.{Consumes, IsAtEnd}
use Rattle.td_base.specs.Views.{SourceFailed, SinkView, SourceView}
use Rattle.td_base.specs.Transfer.{WritesAll}
use Rattle.td_base.specs.declared.transfer.Written.TheVariants as written
use Rattle.console.specs.Lines.{HasWishText, lines_of}
use Rattle.console.specs.Replies.{reply_text}
use Rattle.console.specs.Steps.{GivesLines, most_held}
use Rattle.console.specs.declared.line.Line.{Line}
use Rattle.console.specs.declared.said.Said.TheVariants as said
use Rattle.run_ends.specs.Talking.{ComesTo, IsAt, Scene}
use Rattle.td_top.specs.declared.talking.LineTaken.{LineTaken}
use Rattle.td_top.specs.declared.talking.LineTaken.TheVariants as taken
use Rattle.run_ends.specs.declared.talk_end.TalkEnd.{TalkEnd}
use Rattle.run_ends.specs.declared.talk_end.TalkEnd.TheVariants as end
use Rattle.run_ends.specs.declared.talk_end.TheConstants.{PIECE}
use Rattle.td_top.specs.declared.talking.TalkTurn.{TalkTurn}
use Rattle.td_top.specs.declared.talking.TalkTurn.TheVariants as turn

-- whatever was asked so far, the next line was this
abbrev pub IsNextLine : List ℕ → List ℕ → Line → Type 0
IsNextLine held new next =
    (all : List ℕ) (given : List Line) → GivesLines all given held
    → GivesLines all (given ++ next ∷ []) new

-- all lines of what was fed were asked
abbrev pub HasNone : List ℕ → List ℕ → Type 0
HasNone held new =
    (all : List ℕ) (given : List Line) → GivesLines all given held
    → GivesLines all given new × (lines_of all ≡ given)

-- what came of the next line of the bytes that are held
abbrev pub TakesLine : List ℕ → List ℕ → LineTaken → Type 0
TakesLine held new (taken.Line next) = IsNextLine held new next
TakesLine held new taken.Unread = (next : Line) × HasWishText next × IsNextLine held new next
TakesLine held new taken.None = HasNone held new

-- how many bytes are held at most: those that stay where there is no line, and a piece
abbrev pub most_waiting : ℕ
most_waiting = most_held + PIECE

-- one read of the input, of whose bytes these joined those held
pub record FeedsHeld (before now : SourceView) (held new : List ℕ) : Type 0 where
  pub read : List ℕ
  pub consumed : Consumes before.left now.left read
  pub joined : new ≡ held ++ read
  pub few : length read ≤ PIECE
  pub steady : now.faults ≡ before.faults

-- what a read of the input came to
abbrev pub FeedsTalk : SourceView → SourceView → List ℕ → List ℕ → TalkTurn → Type 0
FeedsTalk before now held new turn.On = FeedsHeld before now held new
FeedsTalk before now held new (turn.End end.InputEnded) =
    Consumes before.left now.left [] × IsAtEnd now.left × (now.faults ≡ before.faults)
FeedsTalk before now held new (turn.End end.NotRead) =
    Consumes before.left now.left [] × SourceFailed before now
    × (now.faults ≤ before.faults + 1)
FeedsTalk before now held new turn.NoMemory = ⊤
FeedsTalk before now held new done = ⊥

-- a text was written, or a failed write cut it, which ends the talk
abbrev pub SaysText : SinkView → SinkView → List ℕ → TalkTurn → Type 0
SaysText old new text turn.On = WritesAll old new text written.Whole
SaysText old new text (turn.End end.NotWritten) = WritesAll old new text written.Cut
SaysText old new text done = ⊥

-- the last reply was written, or a failed write cut it
abbrev pub SaysBye : SinkView → SinkView → TalkEnd → Type 0
SaysBye old new end.Quit = WritesAll old new (reply_text said.Bye) written.Whole
SaysBye old new end.NotWritten = WritesAll old new (reply_text said.Bye) written.Cut
SaysBye old new ended = ⊥

-- a talk goes on after a turn, or has come to its end
abbrev pub Reaches : Scene → Scene → List ℕ → TalkTurn → Type 0
Reaches start now new turn.On = IsAt start now new
Reaches start now new (turn.End ended) = ComesTo start now (Some ended)
Reaches start now new turn.NoMemory = ComesTo start now None

abbrev pub Turns : Scene → Scene → List ℕ → List ℕ → TalkTurn → Type 0
Turns before now held new done =
    (start : Scene) → IsAt start before held → Reaches start now new done

-- a talk that holds no bytes goes on to its end
abbrev pub TalksOn : Scene → Scene → Option TalkEnd → Type 0
TalksOn before now ended = (start : Scene) → IsAt start before [] → ComesTo start now ended
