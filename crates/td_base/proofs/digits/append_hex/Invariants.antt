use Rattle.std.proofs.Common.{◌≡◌, ◌++◌, length, take, drop}
use Rattle.hex.specs.Hex.{encode_lower}
use Rattle.td_base.proofs.digits.append_hex.Given as goal

abbrev pub invariant-loop-byte : goal.invariant-loop-byte
invariant-loop-byte l = record {
  all : l.out ++ encode_lower (drop l.byte-index l.bytes) ≡ l.fn.out ++ encode_lower l.bytes;
  kept : take (length l.fn.out) l.out ≡ l.fn.out;
}
