-- How `load` ends: what is counted is the replies that its requests get, release by release, each
-- over the releases that were made up to then.
use Rattle.std.specs.Prelude.{◌≡◌, ℕ, ◌+◌, List, [], ◌∷◌, ◌++◌, length, take, drop, None, Some}
use Rattle.std.specs.Prelude.{Ok}
use Rattle.td_base.specs.Views.{File}
use Rattle.td_base.specs.declared.report.Role.TheVariants as role
use Rattle.catalogue.specs.Releases.{ReleaseData}
use Rattle.release_check.specs.Before.{before_of}
use Rattle.release_check.specs.Folder.{examined_in}
use Rattle.http_request.specs.Scans.{head_end}
use Rattle.connection.specs.FaultCounts.{no_faults}
use Rattle.connection.specs.Served.{IsClosed}
use Rattle.connection.specs.Serving.{answer_at}
use Rattle.made_load.specs.Counts.{CountsReply, no_counts, summary_text, with_release}
use Rattle.made_load.specs.Releases.{HasMadeFiles, made_manifest}
use Rattle.made_load.specs.Requests.{made_requests}
use Rattle.made_load.specs.declared.counts.LoadCounts.{LoadCounts}
use Rattle.run_ends.specs.Outside.{LeavesStreams, Outside}
use Rattle.run_ends.specs.Printing.{Printed}
use Rattle.run_ends.specs.declared.status.Status.{Status}
use Rattle.run_ends.specs.declared.status.Status.TheVariants as status

-- a release is what its made manifest and its made files give after those before it
pub record IsMadeAfter (H : List ReleaseData) (r : ReleaseData) : Type 0 where
  pub files : List File
  pub has : HasMadeFiles (length H + 1) files
  pub gives : examined_in files [] (before_of H) (made_manifest (length H + 1)) ≡ Ok r

-- the text of the first head of some, and what follows it
pub record IsFirstHead (heads first rest : List ℕ) : Type 0 where
  pub len : ℕ
  pub ends : head_end heads ≡ Some len
  pub first_is : first ≡ take len heads
  pub rest_is : rest ≡ drop len heads

-- A request was answered by these bytes, at the last place of a history: they are what was written
-- to a connection that brought it alone and was closed, and one request was answered there.
pub record IsRequestAnswered (H : List ReleaseData) (request reply : List ℕ) : Type 0 where
  pub read : List ℕ
  pub unread : List ℕ
  pub brought : request ≡ read ++ unread
  pub closed : IsClosed (answer_at H role.Primary)
      (record { read = read; left = Some unread; written = reply; places = length H ∷ [] })
      no_faults no_faults

-- requests were answered over a history, one after another, and each reply was counted
pub data AreCounted (H : List ReleaseData) : List ℕ → LoadCounts → LoadCounts → Type 0 where
  none : (c : LoadCounts) → AreCounted H [] c c
  next : (requests request rest reply : List ℕ) (before now end : LoadCounts)
      → IsFirstHead requests request rest → IsRequestAnswered H request reply
      → CountsReply reply before now → AreCounted H rest now end → AreCounted H requests before end

-- the counts of the first releases of a load
pub data Loads : List ReleaseData → LoadCounts → Type 0 where
  begun : Loads [] no_counts
  more : (H : List ReleaseData) (r : ReleaseData) (before now : LoadCounts)
      → Loads H before → IsMadeAfter H r
      → AreCounted (H ++ r ∷ []) (made_requests (H ++ r ∷ [])) (with_release before) now
      → Loads (H ++ r ∷ []) now

-- the counts of a load of so many releases
pub record LoadsAll (n : ℕ) (counts : LoadCounts) : Type 0 where
  pub history : List ReleaseData
  pub number : length history ≡ n
  pub loads : Loads history counts

-- the line that tells them
pub record IsLoadLine (n : ℕ) (line : List ℕ) : Type 0 where
  pub counts : LoadCounts
  pub all : LoadsAll n counts
  pub line_is : line ≡ summary_text counts

-- how `load` ends; the input is left alone
pub data LoadEnds (n : ℕ) (before after : Outside) : Status → Type 0 where
  told : (line : List ℕ) (end : Status) → IsLoadLine n line
      → Printed status.Done line before.output after.output end
      → after.input ≡ before.input → LoadEnds n before after end
  out_of_memory : LeavesStreams before after → LoadEnds n before after status.NoMemory
