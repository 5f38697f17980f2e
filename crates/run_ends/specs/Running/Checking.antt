-- How folders are checked as one history: a line for each as it goes, up to the first that is
-- refused.
use Rattle.std.specs.Prelude.{ℕ, List, [], ◌∷◌, ◌++◌, length, codes, decimal}
use Rattle.td_base.specs.Views.{StoreFailed, SinkView, StoreView}
use Rattle.td_base.specs.Transfer.{Prints, WritesAll}
use Rattle.td_base.specs.declared.transfer.Written.TheVariants as written
use Rattle.catalogue.specs.Histories.{meta, token_of}
use Rattle.catalogue.specs.Releases.{ReleaseData}
use Rattle.installer.specs.FaultText.{fault_text}
use Rattle.installer.specs.declared.install_fault.InstallFault.{InstallFault}
use Rattle.run_ends.specs.Folders.{FoldersBegin, FoldersGive, StopsAtFault}
use Rattle.run_ends.specs.Printing.{refused_line}
use Rattle.run_ends.specs.declared.status.Status.{Status}
use Rattle.run_ends.specs.declared.status.Status.TheVariants as status

-- a release was checked: the token of the last place of the history, and the number of its zones
abbrev pub ok_line : List ReleaseData → List ℕ
ok_line H =
    codes "ok "
    ++ (token_of H (length H) ++ (codes " " ++ (decimal (length (meta H)) ++ codes "\n")))

-- a line for each release, which come after others
unfoldable pub ok_lines_after : List ReleaseData → List ReleaseData → List ℕ
ok_lines_after before [] = []
ok_lines_after before (r ∷ rest) =
    ok_line (before ++ r ∷ []) ++ ok_lines_after (before ++ r ∷ []) rest

-- a line for each release of a history
abbrev pub ok_lines : List ReleaseData → List ℕ
ok_lines H = ok_lines_after [] H

-- how checking folders ends, which asks no rules, by what became of the store and the output
pub data Checks (dirs : List (List ℕ)) (s t : StoreView) (old new : SinkView) : Status
    → Type 0 where
  -- each folder gave a release
  all : (H : List ReleaseData) → FoldersGive s.files [] dirs H
      → WritesAll old new (ok_lines H) written.Whole → Checks dirs s t old new status.Done
  -- one folder is refused; a failed write may have cut the line that says so
  refused : (H : List ReleaseData) (f : InstallFault) (middle : SinkView)
      → StopsAtFault s.files [] dirs H f → WritesAll old middle (ok_lines H) written.Whole
      → Prints middle new (refused_line (fault_text f)) → Checks dirs s t old new status.Refused
  -- a failed write cut the lines of the first folders
  cut : (H : List ReleaseData) → FoldersBegin s.files [] dirs H
      → WritesAll old new (ok_lines H) written.Cut → Checks dirs s t old new status.NotWritten
  -- a file was not read, or memory ran out, after the lines of the first folders
  unread : (H : List ReleaseData) → FoldersBegin s.files [] dirs H
      → WritesAll old new (ok_lines H) written.Whole → StoreFailed s t
      → Checks dirs s t old new status.NotRead
  out_of_memory : (H : List ReleaseData) → FoldersBegin s.files [] dirs H
      → WritesAll old new (ok_lines H) written.Whole → Checks dirs s t old new status.NoMemory
