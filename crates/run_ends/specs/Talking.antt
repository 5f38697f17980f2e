-- How a talk with an operator goes, over what the history grows by, an input and an output.
use Rattle.std.specs.Prelude.{◌≡◌, ◌≤◌, ◌+◌, ℕ, List, [], ◌∷◌, ◌++◌, length, flat_map, ⊤, Option}
use Rattle.std.specs.Prelude.{None, Some}
use Rattle.std.specs.Io.KnownBytes.{Consumes, IsAtEnd}
use Rattle.std.specs.List.{AllByRecursion}
use Rattle.td_base.specs.Views.{SinkView, SourceFailed, SourceView}
use Rattle.td_base.specs.Transfer.{WritesAll}
use Rattle.td_base.specs.declared.transfer.Written.TheVariants as written
use Rattle.catalogue.specs.Releases.{ReleaseData}
use Rattle.console.specs.Lines.{lines_of}
use Rattle.console.specs.Replies.{reply_text}
use Rattle.console.specs.Steps.{GivesLines}
use Rattle.console.specs.declared.line.Line.{Line}
use Rattle.console.specs.declared.line.Line.TheVariants as line
use Rattle.console.specs.declared.said.Said.TheVariants as said
use Rattle.catalogue.specs.Holdings.{history_of}
use Rattle.run_ends.specs.Audiences.{TellsEachChange, events_of}
use Rattle.run_ends.specs.Replies.{last_token}
use Rattle.run_ends.specs.Sessions.{BeginsWhole, LaterSession, StandsAt}
use Rattle.run_ends.specs.Site.{ConsoleView, LaterConsole}
use Rattle.run_ends.specs.Operator.{KeepsTalking, Talk, Talks, audience, talk_begun}
use Rattle.run_ends.specs.declared.session.Session.{Session}
use Rattle.run_ends.specs.declared.talk_end.TalkEnd.{TalkEnd}
use Rattle.run_ends.specs.declared.talk_end.TalkEnd.TheVariants as end
use Rattle.run_ends.specs.declared.talk_end.TheConstants.{PIECE}

-- a talk's moment: what it is over, and what the console publishes with and shows
pub record Scene : Type 0 where
  pub console : ConsoleView
  pub session : Session

abbrev pub scene : ConsoleView → Session → Scene
scene console session = record { console = console; session = session }

-- any calls were made
pub record LaterScene (before now : Scene) : Type 0 where
  pub console : LaterConsole before.console now.console
  pub session : LaterSession before.session now.session

-- a talk that begins at a scene
abbrev pub talk_begun_at : Scene → Talk
talk_begun_at s =
    record (talk_begun (history_of s.session.installer.list) s.console.feed)
    { subscribers = s.session.installer.subscribers }

-- all that is said: that the server is ready, and what each line gets said
abbrev pub talk_text : List ReleaseData → List (List ℕ) → List ℕ
talk_text opening told =
    reply_text (said.Ready (last_token opening)) ++ flat_map (λ (text : List ℕ). text) told

-- a talk over a scene, by the lines that were asked and what was said of each
pub record TalksOver (before now : Scene) (asked : List Line) (told : List (List ℕ))
    : Type 0 where
  pub later : LaterScene before now
  pub talks : (whole : List ReleaseData) → BeginsWhole now.session whole
      → (t : Talk) × StandsAt now.console.feed now.session t
      × Talks whole (talk_begun_at before) asked told t

-- the first of the lines in the bytes that were read
abbrev pub ReadsLines : SourceView → SourceView → List ℕ → List Line → List Line → Type 0
ReadsLines before now read asked ignored =
    Consumes before.left now.left read × (lines_of read ≡ asked ++ ignored)

-- nothing was read before it was needed: the last piece, of so many bytes at most, was read once
-- all lines of the bytes before it had got what they get said
abbrev pub IsReadNeeded : List ℕ → List Line → Type 0
IsReadNeeded read asked =
    (first piece : List ℕ) × (more : List Line) × (read ≡ first ++ piece)
    × (length piece ≤ PIECE) × (asked ≡ lines_of first ++ more)

-- why a talk ended: the last line asked for it; the input ended, or a read of it failed, after all
-- its lines, none of which asked for the end; or a write failed
abbrev pub EndsBy : ConsoleView → ConsoleView → List Line → List Line → TalkEnd → Type 0
EndsBy before now asked ignored end.Quit =
    (first : List Line) × (asked ≡ first ++ line.Quit ∷ [])
EndsBy before now asked ignored end.InputEnded =
    AllByRecursion KeepsTalking asked × (ignored ≡ []) × IsAtEnd now.input.left
EndsBy before now asked ignored end.NotRead =
    AllByRecursion KeepsTalking asked × (ignored ≡ []) × SourceFailed before.input now.input
EndsBy before now asked ignored end.NotWritten = ⊤

-- how often a read of the input failed: at most once where that ended the talk, and else never
abbrev pub FailsReads : TalkEnd → SourceView → SourceView → Type 0
FailsReads end.NotRead before now = now.faults ≤ before.faults + 1
FailsReads ended before now = now.faults ≡ before.faults

-- a failed write cut what was said last, and all before it was written: no line after it got
-- anything said
pub data IsCut (opening : List ReleaseData) (old new : SinkView) : List (List ℕ) → Type 0 where
  at_ready : WritesAll old new (reply_text (said.Ready (last_token opening))) written.Cut
      → IsCut opening old new []
  at_reply : (first : List (List ℕ)) (last : List ℕ) (middle : SinkView)
      → WritesAll old middle (talk_text opening first) written.Whole
      → WritesAll middle new last written.Cut
      → IsCut opening old new (first ++ last ∷ [])

-- all that is said was written, unless the talk ended by a failed write, which cut the last of it
abbrev pub WritesTalk : TalkEnd → List ReleaseData → SinkView → SinkView → List (List ℕ)
    → Type 0
WritesTalk end.NotWritten opening old new told = IsCut opening old new told
WritesTalk ended opening old new told = WritesAll old new (talk_text opening told) written.Whole

-- the lines that an operator wrote were answered, one after the other, up to an end
pub record Talked (before now : Scene) (ended : TalkEnd) : Type 0 where
  pub read : List ℕ
  pub asked : List Line
  pub ignored : List Line
  pub told : List (List ℕ)
  pub reads : ReadsLines before.console.input now.console.input read asked ignored
  pub needed : IsReadNeeded read asked
  pub over : TalksOver before now asked told
  pub written : WritesTalk ended (history_of before.session.installer.list)
      before.console.output now.console.output told
  pub ends : EndsBy before.console now.console asked ignored ended
  pub fails : FailsReads ended before.console.input now.console.input

-- what a talk came to: an end, or memory ran out, and then nothing is said but what any calls do
abbrev pub ComesTo : Scene → Scene → Option TalkEnd → Type 0
ComesTo before now (Some ended) = Talked before now ended
ComesTo before now None = LaterScene before now

-- a talk so far, with the bytes that are held
pub record IsAt (before now : Scene) (held : List ℕ) : Type 0 where
  pub read : List ℕ
  pub asked : List Line
  pub told : List (List ℕ)
  pub consumed : Consumes before.console.input.left now.console.input.left read
  pub gives : GivesLines read asked held
  pub needed : IsReadNeeded read asked
  pub goes_on : AllByRecursion KeepsTalking asked
  pub steady : now.console.input.faults ≡ before.console.input.faults
  pub over : TalksOver before now asked told
  pub written : WritesAll before.console.output now.console.output
      (talk_text (history_of before.session.installer.list) told) written.Whole

-- An operator's lines were answered, while the history of the run grew from its opening: the lines
-- stand in the bytes that were read, in order and up to an end, what they got said was written, and
-- each subscriber was told what it was owed.
pub record AnswersOperator (opening whole : List ReleaseData) (before now : ConsoleView)
    (ended : TalkEnd) : Type 0 where
  pub read : List ℕ
  pub asked : List Line
  pub ignored : List Line
  pub told : List (List ℕ)
  pub last : Talk
  pub reads : ReadsLines before.input now.input read asked ignored
  pub needed : IsReadNeeded read asked
  pub talks : Talks whole (talk_begun opening before.feed) asked told last
  pub hears : TellsEachChange (audience (talk_begun opening before.feed)) (events_of talks) last
  pub published : last.published ≡ whole
  pub feed : last.feed ≡ now.feed
  pub written : WritesTalk ended opening before.output now.output told
  pub ends : EndsBy before now asked ignored ended
  pub fails : FailsReads ended before.input now.input
