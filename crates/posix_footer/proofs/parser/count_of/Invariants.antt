use Rattle.std.proofs.Common.{◌≡◌, ◌+◌, drop}
use Rattle.std.specs.List.{prefix_len}
use Rattle.posix_footer.specs.Takes.{test_of}
use Rattle.posix_footer.proofs.parser.count_of.Given as goal

abbrev pub invariant-loop-i : goal.invariant-loop-i
invariant-loop-i l = l.i + prefix_len (test_of l.kind) (drop l.i l.text) ≡ prefix_len (test_of l.kind) l.text
