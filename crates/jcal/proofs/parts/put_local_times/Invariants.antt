use Rattle.std.proofs.Common.{◌≡◌, ◌++◌, drop, map}
use Rattle.jcal.specs.Tree.{date_data}
use Rattle.jcal.specs.TreeTokens.{row_tokens}
use Rattle.jcal.proofs.parts.put_local_times.Given as goal

-- what is written, with the dates that are left, is all
abbrev pub invariant-loop-date : goal.invariant-loop-date
invariant-loop-date l = record {
  whole : l.out.tokens ++ row_tokens (map (date_data l.offset) (drop l.date-index l.dates))
      ≡ l.initial.out.tokens ++ row_tokens (map (date_data l.offset) l.dates);
  before : l.out.before ≡ l.initial.out.before;
}
