use Rattle.std.proofs.Common.{map}
use Rattle.catalogue.specs.Holdings.{names_held}
use Rattle.zone_meaning.specs.ZoneHistories.{zone_bytes}
use Rattle.release_check.proofs.Missing.{MissingFrom}
use Rattle.release_check.proofs.history_judging.judge_names.Given as goal

abbrev pub invariant-loop-at : goal.invariant-loop-at
invariant-loop-at l = MissingFrom (names_held zone_bytes l.last) (map (λ n. n.now) l.new.keys) l.at
