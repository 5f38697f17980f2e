-- What contracts see of an object of the outside: what it tells of its content, None where it tells
-- nothing, and how often it failed so far; why a call on it may answer that it failed; and what any
-- number of calls may have done: content is only read off the beginning, added at the end, or kept,
-- and counts of faults never fall.
use Rattle.std.specs.Prelude.{◌≡◌, ℕ, List, Option, [], ◌∷◌, None, Some, if◌then◌else◌, ◌≤◌, ◌+◌}
use Rattle.std.specs.Prelude.{◌-◌, ◌^◌, min}
use Rattle.std.specs.Str.{bytes_eq}
use Rattle.std.specs.Io.KnownBytes.{Appends, Consumes}

-- ---- views

-- a path and the bytes of its file
pub record File : Type 0 where
  pub path : List ℕ
  pub bytes : List ℕ

-- the bytes of the first file of the path
abbrev pub file_at : List File → List ℕ → Option (List ℕ)
file_at [] path = None
file_at (f ∷ fs) path = if bytes_eq f.path path then Some f.bytes else file_at fs path

-- a source: the bytes left
pub record SourceView : Type 0 where
  pub left : Option (List ℕ)
  pub faults : ℕ

-- a sink: the bytes taken
pub record SinkView : Type 0 where
  pub taken : Option (List ℕ)
  pub faults : ℕ

-- a store: its files
pub record StoreView : Type 0 where
  pub files : Option (List File)
  pub faults : ℕ

-- a connection: the bytes that its reads have given, those left, those taken, and how many reads
-- and writes failed; and, of one that is made of a source and a sink that are lent to it, which
-- ones these are (else 0)
pub record ConnView : Type 0 where
  pub given : Option (List ℕ)
  pub left : Option (List ℕ)
  pub taken : Option (List ℕ)
  pub read_faults : ℕ
  pub write_faults : ℕ
  pub source : ℕ
  pub sink : ℕ

-- the connection is made of the same source and the same sink
pub record IsSameConn (before now : ConnView) : Type 0 where
  pub source : now.source ≡ before.source
  pub sink : now.sink ≡ before.sink

-- a connection as a source, and as a sink
abbrev pub source_of : ConnView → SourceView
source_of conn = record { left = conn.left; faults = conn.read_faults }

abbrev pub sink_of : ConnView → SinkView
sink_of conn = record { taken = conn.taken; faults = conn.write_faults }

-- ---- why a call may answer that it failed

-- a count of faults rose from `before` to `now`, or stands at 18446744073709551615, its last value
abbrev pub Rose : ℕ → ℕ → Type 0
Rose before now = min (before + 1) (2 ^ 64 - 1) ≤ now

-- one more, up to the last value of 64 bits
abbrev pub one_more : ℕ → ℕ
one_more n = min (n + 1) (2 ^ 64 - 1)

-- a count of faults rose by at least so many, or stands at its last value
abbrev pub RoseBy : ℕ → ℕ → ℕ → Type 0
RoseBy n before now = min (before + n) (2 ^ 64 - 1) ≤ now

-- that object failed between the two moments
abbrev pub SourceFailed : SourceView → SourceView → Type 0
SourceFailed before now = Rose before.faults now.faults

abbrev pub SinkFailed : SinkView → SinkView → Type 0
SinkFailed before now = Rose before.faults now.faults

abbrev pub StoreFailed : StoreView → StoreView → Type 0
StoreFailed before now = Rose before.faults now.faults

-- a read, or a write, of that connection failed between the two moments
abbrev pub ConnReadFailed : ConnView → ConnView → Type 0
ConnReadFailed before now = Rose before.read_faults now.read_faults

abbrev pub ConnWriteFailed : ConnView → ConnView → Type 0
ConnWriteFailed before now = Rose before.write_faults now.write_faults

-- ---- what any calls may have done

-- some bytes were read
pub record LaterSource (before now : SourceView) : Type 0 where
  pub gone : List ℕ
  pub consumed : Consumes before.left now.left gone
  pub later : before.faults ≤ now.faults

-- some bytes were written
pub record LaterSink (before now : SinkView) : Type 0 where
  pub added : List ℕ
  pub appended : Appends before.taken now.taken added
  pub later : before.faults ≤ now.faults

-- the files are the same
pub record LaterStore (before now : StoreView) : Type 0 where
  pub kept : now.files ≡ before.files
  pub later : before.faults ≤ now.faults

-- some bytes were read and given, and some were written
pub record LaterConn (before now : ConnView) : Type 0 where
  pub gone : List ℕ
  pub consumed : Consumes before.left now.left gone
  pub given : Appends before.given now.given gone
  pub written : LaterSink (sink_of before) (sink_of now)
  pub later : before.read_faults ≤ now.read_faults
  pub same : IsSameConn before now
