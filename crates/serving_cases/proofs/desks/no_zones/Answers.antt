use Rattle.std.proofs.Common.{arith, refl}
use Rattle.std.specs.List.{IsDistinct}
use Rattle.serving_cases.proofs.desks.no_zones.Goals as goal

pub first-requires-clause-fits : goal.first-requires-clause-fits
unfolding IsDistinct
first-requires-clause-fits c =
    rw c.new.ensures
    (record {
      identifiers = refl;
      distinct = tt;
      stamp = tt;
      kept = tt;
      zones = omega arith;
      names = omega arith;
      places = omega arith;
    })
