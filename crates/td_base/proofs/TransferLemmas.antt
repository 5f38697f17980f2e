-- Reading a source in pieces.
use Rattle.std.proofs.Common.{ℕ, ◌+◌, ◌≤◌, List, ◌++◌, length, take, Option, arith, length-append, length-take}
use Rattle.std.proofs.KnownBytes.{Consumes-trans}
use Rattle.std.specs.Io.KnownBytes.{Consumes}
use Rattle.td_base.specs.Transfer.{IsPart}

-- one more piece was read than is held
pub part_read : (most n : ℕ) (a b c : Option (List ℕ)) (held room : List ℕ) → Consumes a b held → Consumes b c (take n room)
    → length held + n ≤ most → IsPart most a c
part_read most n a b c held room first second fits = record {
  gone = held ++ take n room;
  taken = Consumes-trans a b c held (take n room) first second;
  within = rw (length-append, length-take) (omega (arith, fits));
}
