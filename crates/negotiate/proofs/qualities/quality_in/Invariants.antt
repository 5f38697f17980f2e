use Rattle.std.proofs.Common.{◌≡◌, option_copied}
use Rattle.negotiate.specs.Marks.{semicolon}
use Rattle.td_base.specs.Texts.{left_of, pieces_left}
use Rattle.negotiate.specs.Qualities.{quality_in}
use Rattle.negotiate.proofs.qualities.quality_in.Given as goal

abbrev pub invariant-parameters : goal.invariant-parameters
invariant-parameters l = quality_in (pieces_left semicolon (option_copied l.left)) ≡ quality_in (pieces_left semicolon (option_copied l.fn.parameters))

abbrev pub decreases-parameters : goal.decreases-parameters
decreases-parameters l = left_of (option_copied l.left)
