-- What any number of calls may have done: nothing is one of these, two of them after each other are
-- one, and each call is one. An object that failed in a part of the calls failed in all of them.
use Rattle.std.proofs.Common.{ℕ, List, [], ◌++◌, take, Option, None, Some, Result, Ok, Err, refl}
use Rattle.std.proofs.Common.{ap, ◌∙◌, append-nil, sym, arith}
use Rattle.std.proofs.KnownBytes.{Consumes-nil, Consumes-trans, Appends-nil, Appends-trans}
use Rattle.std.specs.Io.KnownBytes.{Appends, Consumes, Keeps}
use Rattle.td_base.specs.Views.{SourceFailed, SinkFailed, StoreFailed}
use Rattle.td_base.specs.Views.{LaterSource, LaterSink, LaterStore, LaterConn}
use Rattle.td_base.specs.Views.{SourceView, SinkView, StoreView, ConnView, IsSameConn, source_of}
use Rattle.td_base.specs.Views.{sink_of}
use Rattle.td_base.specs.Outside.{Reads, Writes, Looks, ConnReads, ConnWrites, ReadTells}
use Rattle.td_base.specs.Outside.{GivenTells}
use Rattle.td_base.specs.Transfer.{ReadsTo, WritesAll, Sends, Prints}
use Rattle.td_base.specs.declared.outside.ReadStep.{ReadStep}
use Rattle.td_base.specs.declared.outside.ReadStep.TheVariants as read
use Rattle.td_base.specs.declared.outside.WriteStep.{WriteStep}
use Rattle.td_base.specs.declared.outside.WriteStep.TheVariants as write
use Rattle.td_base.specs.declared.outside.FileRead.{FileRead}
use Rattle.td_base.specs.declared.source_fault.SourceFault.{SourceFault}
use Rattle.td_base.specs.declared.transfer.Written.{Written}
use Rattle.td_base.specs.declared.transfer.Written.TheVariants as written

-- content that is kept lost and gained nothing
kept_consumes : (a b : Option (List ℕ)) → Keeps a b → Consumes a b []
kept_consumes None b k = tt
kept_consumes (Some x) None k = absurd k
kept_consumes (Some x) (Some y) k = sym k

kept_appends : (a b : Option (List ℕ)) → Keeps a b → Appends a b []
kept_appends None b k = tt
kept_appends (Some x) None k = absurd k
kept_appends (Some x) (Some y) k = k ∙ sym (append-nil x)

-- ---- sources

pub source_refl : (a : SourceView) → LaterSource a a
source_refl a = record { gone = []; consumed = Consumes-nil a.left; later = omega arith }

pub source_trans : (a b c : SourceView) → LaterSource a b → LaterSource b c → LaterSource a c
source_trans a b c p q = record {
  gone = p.gone ++ q.gone;
  consumed = Consumes-trans a.left b.left c.left p.gone q.gone p.consumed q.consumed;
  later = omega (arith, p.later, q.later);
}

-- the bytes that a read gave
pub gone_of : ReadStep → List ℕ → List ℕ
gone_of (read.Got n) room = take n room
gone_of read.End room = []
gone_of read.Failed room = []

read_consumes : (a b : Option (List ℕ)) (r : ReadStep) (room : List ℕ) → ReadTells a b r room → Consumes a b (gone_of r room)
unfolding gone_of
read_consumes a b (read.Got n) room t = t
read_consumes a b read.End room t = kept_consumes a b t.0
read_consumes a b read.Failed room t = kept_consumes a b t

pub reads_later : (a b : SourceView) (r : ReadStep) (room : List ℕ) → Reads a b r room → LaterSource a b
reads_later a b r room p = record {
  gone = gone_of r room;
  consumed = read_consumes a.left b.left r room p.told;
  later = p.later;
}

pub reads_to_later : (most : ℕ) (a b : SourceView) (r : Result (List ℕ) SourceFault) → ReadsTo most a b r → LaterSource a b
reads_to_later most a b (Ok bytes) p = record { gone = bytes; consumed = p.bytes.taken; later = p.later }
reads_to_later most a b (Err e) p = record { gone = p.bytes.gone; consumed = p.bytes.taken; later = p.later }

pub source_failed_then : (a b c : SourceView) → SourceFailed a b → LaterSource b c → SourceFailed a c
source_failed_then a b c p q = omega (arith, p, q.later)

pub source_then_failed : (a b c : SourceView) → LaterSource a b → SourceFailed b c → SourceFailed a c
source_then_failed a b c p q = omega (arith, p.later, q)

-- ---- sinks

pub sink_refl : (a : SinkView) → LaterSink a a
sink_refl a = record { added = []; appended = Appends-nil a.taken; later = omega arith }

pub sink_trans : (a b c : SinkView) → LaterSink a b → LaterSink b c → LaterSink a c
sink_trans a b c p q = record {
  added = p.added ++ q.added;
  appended = Appends-trans a.taken b.taken c.taken p.added q.added p.appended q.appended;
  later = omega (arith, p.later, q.later);
}

pub writes_later : (a b : SinkView) (r : WriteStep) (piece : List ℕ) → Writes a b r piece → LaterSink a b
writes_later a b (write.Took n) piece p = record { added = take n piece; appended = p.told; later = p.later }
writes_later a b write.Failed piece p = record { added = []; appended = kept_appends a.taken b.taken p.told; later = p.later }

pub writes_all_later : (a b : SinkView) (text : List ℕ) (r : Written) → WritesAll a b text r → LaterSink a b
writes_all_later a b text written.Whole p = record { added = text; appended = p.told; later = p.later }
writes_all_later a b text written.Cut p = record { added = take p.told.0 text; appended = p.told.1; later = p.later }

pub prints_later : (a b : SinkView) (text : List ℕ) → Prints a b text → LaterSink a b
prints_later a b text p = writes_all_later a b text p.0 p.1

pub sink_failed_then : (a b c : SinkView) → SinkFailed a b → LaterSink b c → SinkFailed a c
sink_failed_then a b c p q = omega (arith, p, q.later)

pub sink_then_failed : (a b c : SinkView) → LaterSink a b → SinkFailed b c → SinkFailed a c
sink_then_failed a b c p q = omega (arith, p.later, q)

-- ---- stores

pub store_refl : (a : StoreView) → LaterStore a a
store_refl a = record { kept = refl; later = omega arith }

pub store_trans : (a b c : StoreView) → LaterStore a b → LaterStore b c → LaterStore a c
store_trans a b c p q = record { kept = q.kept ∙ p.kept; later = omega (arith, p.later, q.later) }

pub looks_later : (a b : StoreView) (path : List ℕ) (most : ℕ) (r : FileRead) → Looks a b path most r → LaterStore a b
looks_later a b path most r p = record { kept = p.kept; later = p.later }

pub store_failed_then : (a b c : StoreView) → StoreFailed a b → LaterStore b c → StoreFailed a c
store_failed_then a b c p q = omega (arith, p, q.later)

pub store_then_failed : (a b c : StoreView) → LaterStore a b → StoreFailed b c → StoreFailed a c
store_then_failed a b c p q = omega (arith, p.later, q)

-- ---- connections

same_trans : (a b c : ConnView) → IsSameConn a b → IsSameConn b c → IsSameConn a c
same_trans a b c p q = record { source = q.source ∙ p.source; sink = q.sink ∙ p.sink }

pub conn_refl : (a : ConnView) → LaterConn a a
conn_refl a = record {
  gone = [];
  consumed = Consumes-nil a.left;
  given = Appends-nil a.given;
  written = sink_refl (sink_of a);
  later = omega arith;
  same = record { source = refl; sink = refl };
}

pub conn_trans : (a b c : ConnView) → LaterConn a b → LaterConn b c → LaterConn a c
conn_trans a b c p q = record {
  gone = p.gone ++ q.gone;
  consumed = Consumes-trans a.left b.left c.left p.gone q.gone p.consumed q.consumed;
  given = Appends-trans a.given b.given c.given p.gone q.gone p.given q.given;
  written = sink_trans (sink_of a) (sink_of b) (sink_of c) p.written q.written;
  later = omega (arith, p.later, q.later);
  same = same_trans a b c p.same q.same;
}

read_gives : (a b : Option (List ℕ)) (r : ReadStep) (room : List ℕ) → GivenTells a b r room → Appends a b (gone_of r room)
unfolding gone_of
read_gives a b (read.Got n) room t = t
read_gives a b read.End room t = kept_appends a b t
read_gives a b read.Failed room t = kept_appends a b t

pub conn_reads_later : (a b : ConnView) (r : ReadStep) (room : List ℕ) → ConnReads a b r room → LaterConn a b
conn_reads_later a b r room p = record {
  gone = gone_of r room;
  consumed = read_consumes a.left b.left r room p.reads.told;
  given = read_gives a.given b.given r room p.given;
  written = rw p.written (sink_refl (sink_of a));
  later = p.reads.later;
  same = p.same;
}

pub conn_writes_later : (a b : ConnView) (r : WriteStep) (piece : List ℕ) → ConnWrites a b r piece → LaterConn a b
conn_writes_later a b r piece p =
    record {
      gone = [];
      consumed = rw (ap (λ s. s.left) p.read) (Consumes-nil a.left);
      given = rw p.given (Appends-nil a.given);
      written = writes_later (sink_of a) (sink_of b) r piece p.writes;
      later = rw (ap (λ s. s.faults) p.read) (omega arith);
      same = p.same;
    }

pub sends_later : (a b : ConnView) (text : List ℕ) (r : Written) → Sends a b text r → LaterConn a b
sends_later a b text r p = record {
  gone = [];
  consumed = rw (ap (λ s. s.left) p.read) (Consumes-nil a.left);
  given = rw p.given (Appends-nil a.given);
  written = writes_all_later (sink_of a) (sink_of b) text r p.writes;
  later = rw (ap (λ s. s.faults) p.read) (omega arith);
  same = p.same;
}

-- of a connection of a source and a sink each part is later
pub conn_source : (a b : ConnView) → LaterConn a b → LaterSource (source_of a) (source_of b)
conn_source a b p = record { gone = p.gone; consumed = p.consumed; later = p.later }

pub conn_sink : (a b : ConnView) → LaterConn a b → LaterSink (sink_of a) (sink_of b)
conn_sink a b p = p.written
