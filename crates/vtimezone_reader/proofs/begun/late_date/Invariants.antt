use Rattle.std.proofs.Common.{◌≡◌, true, ◌≤ℤ◌}
use Rattle.std.specs.Option.{IfSome}
use Rattle.vtimezone_reader.specs.Onsets.{is_among}
use Rattle.vtimezone_reader.proofs.begun.late_date.Given as goal

abbrev pub invariant-loop-date : goal.invariant-loop-date
invariant-loop-date l = IfSome l.late (λ m. (is_among l.dates m.seconds ≡ true) × (m.seconds ≤ℤ l.t.seconds))
