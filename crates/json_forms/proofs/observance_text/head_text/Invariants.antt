use Rattle.std.proofs.Common.{◌≡◌, ◌++◌, ◌+◌, ◌*◌, ◌≤◌, codes, drop, length}
use Rattle.json.specs.Print.{escape}
use Rattle.td_base.specs.Names.{IsPlain}
use Rattle.json_forms.proofs.observance_text.head_text.Given as goal

-- what is written, and the escaped rest of the name
abbrev pub invariant-loop-byte : goal.invariant-loop-byte
invariant-loop-byte l = record {
  written : l.head ++ escape (drop l.byte-index l.byte-items) ≡ codes ",{\"name\":\"" ++ escape l.fn.name;
  plain : IsPlain (drop l.byte-index l.byte-items);
  room : length l.head ≤ 10 + 2 * l.byte-index;
  few : length l.byte-items ≤ 32;
}
