use Rattle.std.proofs.Common.{◌≡◌, ℕ, suc, ◌<◌, ◌≤◌, ◌-◌, length}
use Rattle.std.specs.Prelude.{slice_index_or, ◌≤ℤ◌, ◌<ℤ◌}
use Rattle.td_civil.specs.declared.moment_type.Moment.{Moment}
use Rattle.zone_meaning.proofs.lookup.begun.Given as goal

abbrev pub invariant-halves : goal.invariant-halves
invariant-halves l =
    (l.low ≤ l.high) × (l.high ≤ length l.lists.moments)
    × ((k : ℕ) (d : Moment) → suc k ≡ l.low → (slice_index_or l.lists.moments k d).seconds ≤ℤ l.t.seconds)
    × ((d : Moment) → l.high < length l.lists.moments → l.t.seconds <ℤ (slice_index_or l.lists.moments l.high d).seconds)

abbrev pub decreases-halves : goal.decreases-halves
decreases-halves l = l.high - l.low
