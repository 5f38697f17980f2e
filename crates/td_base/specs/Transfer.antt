-- What reading a whole source and writing a whole text do.
use Rattle.std.specs.Prelude.{◌≡◌, ℕ, ◌+◌, ◌<◌, ◌≤◌, List, length, take, Option, Result, OnOk}
use Rattle.std.specs.Prelude.{MatchResult}
use Rattle.std.specs.Prelude.{IsErrOf}
use Rattle.std.specs.Io.KnownBytes.{Appends, Consumes, IsAtEnd}
use Rattle.td_base.specs.Views.{SourceFailed, SinkFailed, SourceView, SinkView, ConnView}
use Rattle.td_base.specs.Views.{IsSameConn, source_of, sink_of}
use Rattle.td_base.specs.declared.source_fault.SourceFault.{SourceFault}
use Rattle.td_base.specs.declared.source_fault.SourceFault.TheVariants as fault
use Rattle.td_base.specs.declared.transfer.Written.{Written}
use Rattle.td_base.specs.declared.transfer.Written.TheVariants as written

-- the bytes left began with these, at most so many, and fewer only where no more are left
pub record IsWhole (most : ℕ) (old new : Option (List ℕ)) (bytes : List ℕ) : Type 0 where
  pub taken : Consumes old new bytes
  pub within : length bytes ≤ most
  pub ended : length bytes < most → IsAtEnd new

-- what is gone of the bytes left is a prefix of them, of at most so many bytes
pub record IsPart (most : ℕ) (old new : Option (List ℕ)) : Type 0 where
  pub gone : List ℕ
  pub taken : Consumes old new gone
  pub within : length gone ≤ most

-- a source was read to its end or to so many bytes, or a part of it up to a failed read or where
-- memory ran out
pub record ReadsTo (most : ℕ) (old new : SourceView) (result : Result (List ℕ) SourceFault)
    : Type 0 where
  pub bytes :
      MatchResult result (IsWhole most old.left new.left) (λ _. IsPart most old.left new.left)
  pub later : old.faults ≤ new.faults
  pub once : new.faults ≤ old.faults + 1
  pub steady : OnOk result (new.faults ≡ old.faults)
  pub failed : IsErrOf result fault.Failed → SourceFailed old new

-- the bytes taken grew by all of the text, or by a prefix of it where the sink failed
abbrev pub WritesTell : Option (List ℕ) → Option (List ℕ) → List ℕ → Written → Type 0
WritesTell old new text written.Whole = Appends old new text
WritesTell old new text written.Cut = (n : ℕ) × Appends old new (take n text)

-- a text was written whole, or cut by a failed write
pub record WritesAll (old new : SinkView) (text : List ℕ) (result : Written) : Type 0 where
  pub told : WritesTell old.taken new.taken text result
  pub later : old.faults ≤ new.faults
  pub once : new.faults ≤ old.faults + 1
  pub steady : result ≡ written.Whole → new.faults ≡ old.faults
  pub failed : result ≡ written.Cut → SinkFailed old new

-- a text was written to a connection, whole or cut by a failed write, and nothing was read of it
pub record Sends (old new : ConnView) (text : List ℕ) (result : Written) : Type 0 where
  pub writes : WritesAll (sink_of old) (sink_of new) text result
  pub given : new.given ≡ old.given
  pub read : source_of new ≡ source_of old
  pub same : IsSameConn old new

-- a text was written, whole or cut by a failed write
abbrev pub Prints : SinkView → SinkView → List ℕ → Type 0
Prints old new text = (how : Written) × WritesAll old new text how
