use Rattle.std.proofs.Common.{◌≡◌, ◌++◌, drop}
use Rattle.subscribers.specs.News.{taken_from}
use Rattle.subscribers.proofs.noticing.taken_from.Given as goal

-- what is written, with what is left, is the whole
abbrev pub invariant-loop-change : goal.invariant-loop-change
invariant-loop-change g l = l.tzids ++ taken_from l.wish (drop l.change-index l.changed) ≡ taken_from l.wish l.changed
