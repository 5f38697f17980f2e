-- Which of several doors takes a connection that waits.
use Rattle.std.specs.Prelude.{ℕ, ◌*◌, Bool, ◌||◌, nat_le}
use Rattle.stretches.specs.declared.share.TheConstants.{GRACE_MILLIS}

-- at once where it has no more than its share of all, and else where no other took it in time
abbrev pub accepts : (own all doors waited : ℕ) → Bool
accepts own all doors waited = nat_le (own * doors) all || nat_le GRACE_MILLIS waited
