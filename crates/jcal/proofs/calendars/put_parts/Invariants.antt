use Rattle.std.proofs.Common.{◌≡◌, ◌++◌, drop, map}
use Rattle.jcal.specs.Tree.{part_data}
use Rattle.jcal.specs.TreeTokens.{row_tokens}
use Rattle.jcal.proofs.calendars.put_parts.Given as goal

-- what is written, with the parts that are left, is all
abbrev pub invariant-loop-part : goal.invariant-loop-part
invariant-loop-part l = record {
  whole : l.out.tokens ++ row_tokens (map part_data (drop l.part-index l.parts)) ≡ l.initial.out.tokens ++ row_tokens (map part_data l.parts);
  before : l.out.before ≡ l.initial.out.before;
}
