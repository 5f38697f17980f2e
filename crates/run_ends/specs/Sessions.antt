-- What a console publishes with and shows, and what one of its lines makes of that.
use Rattle.std.specs.Prelude.{◌≡◌, ◌≤◌, ℕ, List, length}
use mathlib.Core.List.{IsPrefix}
use Rattle.catalogue.specs.Releases.{ReleaseData}
use Rattle.console.specs.declared.line.Line.{Line}
use Rattle.catalogue.specs.Holdings.{history_of}
use Rattle.run_ends.specs.Feeds.{FeedView, LaterFeed}
use Rattle.run_ends.specs.Operator.{GetsAnswer, Talk}
use Rattle.run_ends.specs.declared.session.Session.{Session}

-- what was published is published, and what was seen was seen
pub record LaterSession (before now : Session) : Type 0 where
  pub installer : now.installer.pair ≡ before.installer.pair
  pub desk : now.desk.pair ≡ before.desk.pair
  pub published : IsPrefix before.installer.list now.installer.list
  pub seen : IsPrefix before.desk.seen now.desk.seen

-- a talk is at this session, and at this by which the history grows
pub record StandsAt (now : FeedView) (session : Session) (t : Talk) : Type 0 where
  pub published : t.published ≡ history_of session.installer.list
  pub least : t.least ≤ length session.desk.seen
  pub feed : t.feed ≡ now
  pub subscribers : t.subscribers ≡ session.installer.subscribers

-- the history begins with all that was published and seen
pub record BeginsWhole (session : Session) (whole : List ReleaseData) : Type 0 where
  pub published : IsPrefix (history_of session.installer.list) whole
  pub seen : IsPrefix (history_of session.desk.seen) whole

-- One line was answered: over each history that begins with all that was published and seen then,
-- a talk goes on by what was said.
pub record LineAnswered (old new : FeedView) (before now : Session) (asked : Line)
    (answer : List ℕ) : Type 0 where
  pub feed : LaterFeed old new
  pub later : LaterSession before now
  pub answers : (whole : List ReleaseData) (talk : Talk)
      → BeginsWhole now whole → StandsAt old before talk
      → (next : Talk) × StandsAt new now next × GetsAnswer whole talk asked answer next

-- The same as one fact, which a search takes as it is.
unfoldable pub AnswersLine : FeedView → FeedView → Session → Session → Line → List ℕ → Type 0
AnswersLine old new before now asked answer = LineAnswered old new before now asked answer
