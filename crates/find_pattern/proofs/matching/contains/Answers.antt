use Rattle.std.proofs.Common.{◌∙◌}
use Rattle.find_pattern.proofs.SameLemmas.{begins_here}
use Rattle.find_pattern.proofs.matching.contains.Goals as goal

pub returns-then-begins : goal.returns-then-begins
returns-then-begins c = begins_here c.args.text.now c.suffixes.left.now c.if-begins.ensures ∙ c.suffixes.invariant
