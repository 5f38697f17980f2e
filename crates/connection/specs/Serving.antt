-- What serving a connection over a desk promises.
use Rattle.std.specs.Prelude.{ℕ, List, length, take, Result, Ok, Err}
use mathlib.Core.List.{IsPrefix}
use Rattle.actions.specs.Action.{action}
use Rattle.catalogue.specs.Holdings.{history_of}
use Rattle.catalogue.specs.Releases.{ReleaseData}
use Rattle.catalogue.specs.declared.holding.Catalogue.{Catalogue}
use Rattle.http_answer.specs.declared.answer.Answer.{Answer}
use Rattle.http_request.specs.declared.head.Head.{Head}
use Rattle.publication.specs.Views.{DeskView}
use Rattle.td_base.specs.Views.{ConnView}
use Rattle.td_base.specs.declared.no_memory.NoMemory.{NoMemory}
use Rattle.td_base.specs.declared.report.End.{End}
use Rattle.td_base.specs.declared.report.Role.{Role}
use Rattle.connection.specs.FaultCounts.{faults_of}
use Rattle.connection.specs.Served.{ArePlaces, IsNeeded, IsStarved, Served, Transcript}
use Rattle.connection.specs.Traffic.{Passes, Traffic}

-- a fact of each history that begins with this one
abbrev pub ForEachLonger : List ReleaseData → (List ReleaseData → Type 0) → Type 0
ForEachLonger before P = (H : List ReleaseData) → IsPrefix before H → P H

-- a request answered at a place of a history: over the releases up to that place
abbrev pub answer_at : List ReleaseData → Role → ℕ → Head → Answer
answer_at H role place head = action (take place H) role head

-- what is seen of a connection of which these bytes were read and written
abbrev pub session_of : ConnView → (read written places : List ℕ) → Transcript
session_of now read written places =
    record { read = read; left = now.left; written = written; places = places }

-- the connection was served over a history
abbrev pub ServedOver : List ReleaseData → Role → ConnView → ConnView → Transcript → End → Type 0
ServedOver H role before now s end =
    Served (answer_at H role) (length H) s (faults_of before) (faults_of now) end

-- what was read and written meanwhile is that of a served connection, over the history that the
-- desk has seen at the end, and over each that begins with it
pub record ServesConn (desk : DeskView (Catalogue (List ℕ))) (role : Role)
    (before now : ConnView) (places : List ℕ) (end : End) : Type 0 where
  pub read : List ℕ
  pub written : List ℕ
  pub traffic : Traffic before now read written
  pub served : ForEachLonger (history_of desk.seen)
      (λ H. ServedOver H role before now (session_of now read written places) end)

-- the same up to where memory ran out, of which nothing is told yet
pub record ServesPart (desk : DeskView (Catalogue (List ℕ))) (role : Role)
    (before now : ConnView) (places : List ℕ) : Type 0 where
  pub read : List ℕ
  pub written : List ℕ
  pub passes : Passes before now read written
  pub needed : IsNeeded read
  pub are : ArePlaces (length desk.seen) places
  pub starved : ForEachLonger (history_of desk.seen)
      (λ H. IsStarved (answer_at H role) (session_of now read written places))

abbrev pub ServesUpTo : DeskView (Catalogue (List ℕ)) → Role → ConnView → ConnView → List ℕ
    → Result End NoMemory → Type 0
ServesUpTo desk role before now places (Ok end) = ServesConn desk role before now places end
ServesUpTo desk role before now places (Err fault) = ServesPart desk role before now places
