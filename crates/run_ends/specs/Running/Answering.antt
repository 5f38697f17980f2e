-- How `answer` ends: the input and the output are served as one connection, over a history.
use Rattle.std.specs.Prelude.{◌≡◌, ℕ, List, [], length}
use Rattle.std.specs.Io.KnownBytes.{Appends, Consumes}
use Rattle.std.specs.List.{AllByRecursion}
use Rattle.td_base.specs.declared.report.End.{End}
use Rattle.td_base.specs.declared.report.End.TheVariants as ended
use Rattle.td_base.specs.declared.report.Role.TheVariants as role
use Rattle.catalogue.specs.Releases.{ReleaseData}
use Rattle.connection.specs.FaultCounts.{FaultCounts}
use Rattle.connection.specs.Served.{Served}
use Rattle.connection.specs.Serving.{answer_at}
use Rattle.run_ends.specs.Folders.{FoldersGive, ServesNothing}
use Rattle.run_ends.specs.Outside.{Outside}
use Rattle.run_ends.specs.declared.status.Status.{Status}
use Rattle.run_ends.specs.declared.status.Status.TheVariants as status

-- how often the input and the output failed
abbrev pub stream_faults : Outside → FaultCounts
stream_faults o = record { reads = o.input.faults; writes = o.output.faults }

-- what was read of the input and written to the output is that of a served connection; each request
-- was answered at the last place of the history
pub record ServesStreams (H : List ReleaseData) (before after : Outside) (end : End) : Type 0 where
  pub read : List ℕ
  pub written : List ℕ
  pub places : List ℕ
  pub consumed : Consumes before.input.left after.input.left read
  pub appended : Appends before.output.taken after.output.taken written
  pub served : Served (answer_at H role.Primary) (length H)
      (record { read = read; left = after.input.left; written = written; places = places })
      (stream_faults before) (stream_faults after) end
  pub latest : AllByRecursion (λ place. place ≡ length H) places

-- the status for the end of the one connection of a run
abbrev pub end_status : End → Status
end_status ended.Closed = status.Done
end_status ended.ReadFault = status.NotRead
end_status ended.WriteFault = status.NotWritten
end_status ended.NoMemory = status.NoMemory

-- how `answer` ends, which asks no rules
pub data Answers (dirs : List (List ℕ)) (before after : Outside) : Status → Type 0 where
  -- by the end of the one connection that the input and the output are, over the releases
  served : (H : List ReleaseData) (end : End) → FoldersGive before.store.files [] dirs H
      → ServesStreams H before after end → Answers dirs before after (end_status end)
  nothing : (end : Status) → ServesNothing [] dirs before after end → Answers dirs before after end
