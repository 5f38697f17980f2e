-- What an object does of which a call failed, with a count of faults of its own: the chosen calls
-- leave the object inside alone, and the others hand on its answer.
use Rattle.std.proofs.Common.{◌≡◌, ◌≤◌, ◌+◌, ℕ, List, arith, refl, sym, ap, ◌∙◌, true≢false}
use Rattle.std.proofs.KnownBytes.{Keeps-refl}
use Rattle.td_base.specs.Views.{one_more}
use Rattle.td_base.specs.Outside.{Reads, Writes, Looks, ConnReads, ConnWrites, FileTells}
use Rattle.td_base.specs.Outside.{is_failed_read, is_failed_write, is_failed_look}
use Rattle.td_base.specs.Views.{SourceView, SinkView, StoreView, ConnView, source_of, sink_of, File}
use Rattle.td_base.specs.declared.outside.ReadStep.{ReadStep}
use Rattle.td_base.specs.declared.outside.ReadStep.TheVariants as read
use Rattle.td_base.specs.declared.outside.WriteStep.{WriteStep}
use Rattle.td_base.specs.declared.outside.WriteStep.TheVariants as write
use Rattle.td_base.specs.declared.outside.FileRead.{FileRead}
use Rattle.td_base.specs.declared.outside.FileRead.TheVariants as file
use Rattle.std.specs.Prelude.{None, Some, Option}

-- the view with another count
abbrev pub source_with : SourceView → ℕ → SourceView
source_with s n = record s { faults = n }

abbrev pub sink_with : SinkView → ℕ → SinkView
sink_with s n = record s { faults = n }

abbrev pub store_with : StoreView → ℕ → StoreView
store_with s n = record s { faults = n }

abbrev pub conn_with : ConnView → ℕ → ℕ → ConnView
conn_with s n m = record s { read_faults = n; write_faults = m }

pub chosen_read : (a : SourceView) (m n : ℕ) (room : List ℕ) → n ≡ one_more m → m ≤ n → Reads (source_with a m) (source_with a n) read.Failed room
chosen_read a m n room e l = record {
  fits = tt;
  told = Keeps-refl a.left;
  later = l;
  once = omega (arith, e);
  steady = λ f. absurd (true≢false f);
  failed = λ _. omega (arith, e);
}

pub other_read : (a b : SourceView) (m n : ℕ) (r : ReadStep) (room : List ℕ) → Reads a b r room → r ≡ read.Failed → n ≡ one_more m → m ≤ n
    → Reads (source_with a m) (source_with b n) r room
other_read a b m n r room p is e l = record {
  fits = p.fits;
  told = p.told;
  later = l;
  once = omega (arith, e);
  steady = λ f. absurd (true≢false (sym (ap is_failed_read is) ∙ f));
  failed = λ _. omega (arith, e);
}

pub chosen_write : (a : SinkView) (m n : ℕ) (piece : List ℕ) → n ≡ one_more m → m ≤ n → Writes (sink_with a m) (sink_with a n) write.Failed piece
chosen_write a m n piece e l = record {
  fits = tt;
  told = Keeps-refl a.taken;
  later = l;
  once = omega (arith, e);
  steady = λ f. absurd (true≢false f);
  failed = λ _. omega (arith, e);
}

pub other_write : (a b : SinkView) (m n : ℕ) (r : WriteStep) (piece : List ℕ) → Writes a b r piece → r ≡ write.Failed → n ≡ one_more m → m ≤ n
    → Writes (sink_with a m) (sink_with b n) r piece
other_write a b m n r piece p is e l = record {
  fits = p.fits;
  told = p.told;
  later = l;
  once = omega (arith, e);
  steady = λ f. absurd (true≢false (sym (ap is_failed_write is) ∙ f));
  failed = λ _. omega (arith, e);
}

failed_tells : (files : Option (List File)) (path : List ℕ) (most : ℕ) → FileTells files path most file.Failed
failed_tells None path most = tt
failed_tells (Some files) path most = tt

pub chosen_look : (a : StoreView) (m n : ℕ) (path : List ℕ) (most : ℕ) → n ≡ one_more m → m ≤ n
    → Looks (store_with a m) (store_with a n) path most file.Failed
chosen_look a m n path most e l = record {
  kept = refl;
  fits = tt;
  told = failed_tells a.files path most;
  later = l;
  once = omega (arith, e);
  steady = λ f. absurd (true≢false f);
  failed = λ _. omega (arith, e);
}

pub other_look : (a b : StoreView) (m n : ℕ) (path : List ℕ) (most : ℕ) (r : FileRead) → Looks a b path most r → r ≡ file.Failed → n ≡ one_more m → m ≤ n
    → Looks (store_with a m) (store_with b n) path most r
other_look a b m n path most r p is e l = record {
  kept = p.kept;
  fits = p.fits;
  told = p.told;
  later = l;
  once = omega (arith, e);
  steady = λ f. absurd (true≢false (sym (ap is_failed_look is) ∙ f));
  failed = λ _. omega (arith, e);
}

pub chosen_conn_read : (a : ConnView) (m n k : ℕ) (room : List ℕ) → n ≡ one_more m → m ≤ n
    → ConnReads (conn_with a m k) (conn_with a n k) read.Failed room
chosen_conn_read a m n k room e l = record {
  reads = chosen_read (source_of a) m n room e l;
  given = Keeps-refl a.given;
  written = refl;
  same = record { source = refl; sink = refl };
}

pub other_conn_read : (a b : ConnView) (m n k : ℕ) (r : ReadStep) (room : List ℕ) → ConnReads a b r room → r ≡ read.Failed → n ≡ one_more m → m ≤ n
    → ConnReads (conn_with a m k) (conn_with b n k) r room
other_conn_read a b m n k r room p is e l = record {
  reads = other_read (source_of a) (source_of b) m n r room p.reads is e l;
  given = p.given;
  written = ap (λ s. sink_with s k) p.written;
  same = record { source = p.same.source; sink = p.same.sink };
}

pub chosen_conn_write : (a : ConnView) (m n k : ℕ) (piece : List ℕ) → n ≡ one_more m → m ≤ n
    → ConnWrites (conn_with a k m) (conn_with a k n) write.Failed piece
chosen_conn_write a m n k piece e l = record {
  writes = chosen_write (sink_of a) m n piece e l;
  given = refl;
  read = refl;
  same = record { source = refl; sink = refl };
}

pub other_conn_write : (a b : ConnView) (m n k : ℕ) (r : WriteStep) (piece : List ℕ) → ConnWrites a b r piece → r ≡ write.Failed → n ≡ one_more m → m ≤ n
    → ConnWrites (conn_with a k m) (conn_with b k n) r piece
other_conn_write a b m n k r piece p is e l = record {
  writes = other_write (sink_of a) (sink_of b) m n r piece p.writes is e l;
  given = p.given;
  read = ap (λ s. source_with s k) p.read;
  same = record { source = p.same.source; sink = p.same.sink };
}
