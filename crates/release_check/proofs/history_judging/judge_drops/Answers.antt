use Rattle.std.proofs.Common.{map}
use Rattle.release_check.proofs.Missing.{drops_are}
use Rattle.release_check.proofs.history_judging.judge_drops.Goals as goal

pub returns-in-Some : goal.returns-in-Some
returns-in-Some c = λ names same.
    rw (c.in-Some.is, ← drops_are c.in-Some.last.now (map (λ n. n.now) c.args.new.now.keys) names same) c.judge_names.ensures
