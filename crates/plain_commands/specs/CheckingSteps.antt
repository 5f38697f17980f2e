-- What checking one more folder comes to, after a history for which a catalogue stands.
use Rattle.std.specs.Prelude.{◌≡◌, ℕ, List, [], ◌∷◌, ◌++◌, Option, None, Some, Result, Ok, Err}
use Rattle.td_base.specs.Views.{StoreFailed, File, LaterStore, LaterSink, SinkView, StoreView}
use Rattle.td_base.specs.Transfer.{Prints, WritesAll}
use Rattle.td_base.specs.declared.transfer.Written.TheVariants as written
use Rattle.catalogue.specs.Holdings.{StandsFor, release_held}
use Rattle.catalogue.specs.Releases.{ReleaseData}
use Rattle.catalogue.specs.declared.holding.Catalogue.{Catalogue}
use Rattle.installer.specs.FaultText.{fault_text}
use Rattle.installer.specs.declared.install_fault.InstallFault.{InstallFault}
use Rattle.zone_meaning.specs.Sound.{IsSound}
use Rattle.zone_meaning.specs.ZoneHistories.{ForEachZoneHistory}
use Rattle.run_ends.specs.Folders.{FoldersGive, GivesAfter, IsRefusal}
use Rattle.run_ends.specs.Printing.{refused_line}
use Rattle.run_ends.specs.Running.Checking.{ok_line, ok_lines}
use Rattle.run_ends.specs.declared.status.Status.{Status}
use Rattle.run_ends.specs.declared.status.Status.TheVariants as status

-- the catalogue stands for the history, and no catalogue for the empty one
abbrev pub Stands : Option (Catalogue (List ℕ)) → List ReleaseData → Type 0
Stands None H = H ≡ []
Stands (Some c) H = StandsFor (λ file. file) IsSound c H

-- a history with the release that a catalogue holds after it
abbrev pub grown : List ReleaseData → Catalogue (List ℕ) → List ReleaseData
grown H c = H ++ release_held (λ file. file) c ∷ []

-- the catalogue stands for each history for which the other stands, with one release more
abbrev pub AddsRelease : Option (Catalogue (List ℕ)) → Catalogue (List ℕ) → Type 0
AddsRelease last c =
    (H : List ReleaseData) → Stands last H → StandsFor (λ file. file) IsSound c (grown H c)

-- the line of a catalogue's last release
abbrev pub HasLine : Catalogue (List ℕ) → List ℕ → Type 0
HasLine c line = ForEachZoneHistory c (λ H. line ≡ ok_line H)

-- the line of a catalogue's last release was printed, or cut by a failed write, or memory ran out
abbrev pub TellsRelease : Catalogue (List ℕ) → SinkView → SinkView
    → Result (Catalogue (List ℕ)) Status → Type 0
TellsRelease c old new (Ok next) =
    (next ≡ c) × ForEachZoneHistory c (λ H. WritesAll old new (ok_line H) written.Whole)
TellsRelease c old new (Err status.NotWritten) =
    ForEachZoneHistory c (λ H. WritesAll old new (ok_line H) written.Cut)
TellsRelease c old new (Err status.NoMemory) = new ≡ old
TellsRelease c old new (Err end) = ⊥

-- the folder gave the release that the catalogue holds, and its line was printed
pub record PrintsRelease (files : Option (List File)) (H : List ReleaseData) (dir : List ℕ)
    (old new : SinkView) (c : Catalogue (List ℕ)) : Type 0 where
  pub gives : GivesAfter files [] H dir (Ok (release_held (λ file. file) c))
  pub stands : StandsFor (λ file. file) IsSound c (grown H c)
  pub line : WritesAll old new (ok_line (grown H c)) written.Whole

-- the folder is refused, and the line that says so was printed, or cut by a failed write
pub record PrintsRefusal (files : Option (List File)) (H : List ReleaseData) (dir : List ℕ)
    (old new : SinkView) : Type 0 where
  pub why : InstallFault
  pub is_refusal : IsRefusal why
  pub gives : GivesAfter files [] H dir (Err why)
  pub line : Prints old new (refused_line (fault_text why))

-- the folder gave a release, and a failed write cut its line
pub record CutsRelease (files : Option (List File)) (H : List ReleaseData) (dir : List ℕ)
    (old new : SinkView) : Type 0 where
  pub release : ReleaseData
  pub gives : GivesAfter files [] H dir (Ok release)
  pub line : WritesAll old new (ok_line (H ++ release ∷ [])) written.Cut

-- the status with which a run ends at a folder
abbrev pub EndsAt : List ReleaseData → List ℕ → StoreView → StoreView → SinkView → SinkView
    → Status → Type 0
EndsAt H dir s t old new status.Refused = PrintsRefusal s.files H dir old new
EndsAt H dir s t old new status.NotRead = StoreFailed s t × (new ≡ old)
EndsAt H dir s t old new status.NotWritten = CutsRelease s.files H dir old new
EndsAt H dir s t old new status.NoMemory = new ≡ old
EndsAt H dir s t old new end = ⊥

abbrev pub FolderComes : List ReleaseData → List ℕ → StoreView → StoreView → SinkView → SinkView
    → Result (Catalogue (List ℕ)) Status → Type 0
FolderComes H dir s t old new (Ok c) = PrintsRelease s.files H dir old new c
FolderComes H dir s t old new (Err end) = EndsAt H dir s t old new end

-- one folder more was checked, after a history
pub record ChecksNext (H : List ReleaseData) (dir : List ℕ) (s t : StoreView)
    (old new : SinkView) (result : Result (Catalogue (List ℕ)) Status) : Type 0 where
  pub store : LaterStore s t
  pub output : LaterSink old new
  pub comes : FolderComes H dir s t old new result

-- the first of the folders gave the history of a catalogue, and their lines were printed
pub record IsCheckedTo (first : List (List ℕ)) (last : Option (Catalogue (List ℕ)))
    (s t : StoreView) (old new : SinkView) : Type 0 where
  pub history : List ReleaseData
  pub stands : Stands last history
  pub give : FoldersGive s.files [] first history
  pub lines : WritesAll old new (ok_lines history) written.Whole
  pub store : LaterStore s t
