use Rattle.std.proofs.Common.{append_assoc, to_z-of_z}
use Rattle.vtimezone.specs.Values.{by_year_days}
use Rattle.vtimezone.proofs.values.append_year_days.Goals as goal

pub returns-clause-text : goal.returns-clause-text
unfolding by_year_days
returns-clause-text c =
    let numbers = simp (to_z-of_z c.ranges.first) at c.append_seven.ensures.text in
    rw (numbers, c.append.ensures) (simp append_assoc)
