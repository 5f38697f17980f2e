use Rattle.std.proofs.Common.{◌≡◌, ◌+◌, ◌*◌, ◌^◌, ◌<◌, ◌≤◌, length, drop}
use Rattle.posix_footer.specs.Items.{number_of_digits}
use Rattle.posix_footer.proofs.items.value_of.Given as goal

abbrev pub invariant-loop-digit : goal.invariant-loop-digit
invariant-loop-digit l = record {
  exact : l.number * 10 ^ length (drop l.digit-index l.digits) + number_of_digits (drop l.digit-index l.digits) ≡ number_of_digits l.digits;
  none : l.digit-index < 1 → l.number ≤ 0;
  one : l.digit-index < 2 → l.number ≤ 207;
  two : l.digit-index < 3 → l.number ≤ 2277;
  three : l.number ≤ 22977;
}
