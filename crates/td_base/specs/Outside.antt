-- What one call does to an object of the outside. Of content that an object does not tell nothing
-- is said.
use Rattle.std.specs.Prelude.{◌≡◌, ℕ, ◌+◌, ◌<◌, ◌≤◌, List, length, take, ⊤, Option, None, Some}
use Rattle.std.specs.Prelude.{Bool, true, false}
use Rattle.std.specs.Option.{option_map}
use Rattle.std.specs.Io.KnownBytes.{Appends, Consumes, IsAtEnd, Keeps}
use Rattle.td_base.specs.Views.{SourceFailed, SinkFailed, StoreFailed, File, file_at, SourceView}
use Rattle.td_base.specs.Views.{SinkView, StoreView, ConnView, IsSameConn, source_of, sink_of}
use Rattle.td_base.specs.declared.outside.ReadStep.{ReadStep}
use Rattle.td_base.specs.declared.outside.ReadStep.TheVariants as read
use Rattle.td_base.specs.declared.outside.WriteStep.{WriteStep}
use Rattle.td_base.specs.declared.outside.WriteStep.TheVariants as write
use Rattle.td_base.specs.declared.outside.FileRead.{FileRead}
use Rattle.td_base.specs.declared.outside.FileRead.TheVariants as file

-- the number of bytes that a read gave is at least one and within the room
abbrev pub ReadFits : ReadStep → List ℕ → Type 0
ReadFits (read.Got n) room = (0 < n) × (n ≤ length room)
ReadFits read.End room = ⊤
ReadFits read.Failed room = ⊤

-- the bytes left begin with those that a read gave, and lose them; the end comes only where none
-- are left
abbrev pub ReadTells : Option (List ℕ) → Option (List ℕ) → ReadStep → List ℕ → Type 0
ReadTells old new (read.Got n) room = Consumes old new (take n room)
ReadTells old new read.End room = Keeps old new × IsAtEnd new
ReadTells old new read.Failed room = Keeps old new

abbrev pub is_failed_read : ReadStep → Bool
is_failed_read (read.Got n) = false
is_failed_read read.End = false
is_failed_read read.Failed = true

-- one read into the room: a read failed only where the count of faults rose, by one at the most,
-- and one that did not fail leaves it
pub record Reads (old new : SourceView) (result : ReadStep) (room : List ℕ) : Type 0 where
  pub fits : ReadFits result room
  pub told : ReadTells old.left new.left result room
  pub later : old.faults ≤ new.faults
  pub once : new.faults ≤ old.faults + 1
  pub steady : is_failed_read result ≡ false → new.faults ≡ old.faults
  pub failed : result ≡ read.Failed → SourceFailed old new

-- the number of bytes that a write took is at least one and within the piece
abbrev pub WriteFits : WriteStep → List ℕ → Type 0
WriteFits (write.Took n) piece = (0 < n) × (n ≤ length piece)
WriteFits write.Failed piece = ⊤

-- the bytes taken grow by those of the piece that a write took
abbrev pub WriteTells : Option (List ℕ) → Option (List ℕ) → WriteStep → List ℕ → Type 0
WriteTells old new (write.Took n) piece = Appends old new (take n piece)
WriteTells old new write.Failed piece = Keeps old new

abbrev pub is_failed_write : WriteStep → Bool
is_failed_write (write.Took n) = false
is_failed_write write.Failed = true

-- one write of the piece: a write failed only where the count of faults rose, by one at the most,
-- and one that did not fail leaves it
pub record Writes (old new : SinkView) (result : WriteStep) (piece : List ℕ) : Type 0 where
  pub fits : WriteFits result piece
  pub told : WriteTells old.taken new.taken result piece
  pub later : old.faults ≤ new.faults
  pub once : new.faults ≤ old.faults + 1
  pub steady : is_failed_write result ≡ false → new.faults ≡ old.faults
  pub failed : result ≡ write.Failed → SinkFailed old new

-- no more bytes were read than were asked for
abbrev pub FileFits : ℕ → FileRead → Type 0
FileFits most (file.Found bytes) = length bytes ≤ most
FileFits most file.Absent = ⊤
FileFits most file.Failed = ⊤
FileFits most file.NoMemory = ⊤

-- what was found are the first `most` bytes of the file, and a file is absent only where there is
-- none of the path
abbrev pub FileTells : Option (List File) → List ℕ → ℕ → FileRead → Type 0
FileTells None path most result = ⊤
FileTells (Some files) path most (file.Found bytes) =
    option_map (take most) (file_at files path) ≡ Some bytes
FileTells (Some files) path most file.Absent = file_at files path ≡ None
FileTells (Some files) path most file.Failed = ⊤
FileTells (Some files) path most file.NoMemory = ⊤

abbrev pub is_failed_look : FileRead → Bool
is_failed_look (file.Found bytes) = false
is_failed_look file.Absent = false
is_failed_look file.Failed = true
is_failed_look file.NoMemory = false

-- one look at a file: no file changes; a file was not read only where the count of faults rose, by
-- one at the most, and every other answer leaves it
pub record Looks (old new : StoreView) (path : List ℕ) (most : ℕ) (result : FileRead) : Type 0 where
  pub kept : new.files ≡ old.files
  pub fits : FileFits most result
  pub told : FileTells old.files path most result
  pub later : old.faults ≤ new.faults
  pub once : new.faults ≤ old.faults + 1
  pub steady : is_failed_look result ≡ false → new.faults ≡ old.faults
  pub failed : result ≡ file.Failed → StoreFailed old new

-- the bytes that reads have given grow by those that a read gave
abbrev pub GivenTells : Option (List ℕ) → Option (List ℕ) → ReadStep → List ℕ → Type 0
GivenTells old new (read.Got n) room = Appends old new (take n room)
GivenTells old new read.End room = Keeps old new
GivenTells old new read.Failed room = Keeps old new

-- one read of a connection, which leaves all that concerns its writes
pub record ConnReads (old new : ConnView) (result : ReadStep) (room : List ℕ) : Type 0 where
  pub reads : Reads (source_of old) (source_of new) result room
  pub given : GivenTells old.given new.given result room
  pub written : sink_of new ≡ sink_of old
  pub same : IsSameConn old new

-- one write to a connection, which leaves all that concerns its reads
pub record ConnWrites (old new : ConnView) (result : WriteStep) (piece : List ℕ) : Type 0 where
  pub writes : Writes (sink_of old) (sink_of new) result piece
  pub given : new.given ≡ old.given
  pub read : source_of new ≡ source_of old
  pub same : IsSameConn old new
