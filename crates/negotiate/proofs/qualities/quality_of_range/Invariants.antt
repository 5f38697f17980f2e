use Rattle.std.proofs.Common.{◌≡◌, option_copied}
use Rattle.negotiate.specs.Marks.{comma}
use Rattle.td_base.specs.Texts.{left_of, pieces, pieces_left}
use Rattle.negotiate.specs.Qualities.{larger_quality, largest_for}
use Rattle.negotiate.proofs.qualities.quality_of_range.Given as goal

abbrev pub invariant-elements : goal.invariant-elements
invariant-elements l =
    larger_quality l.best (largest_for l.range (pieces_left comma (option_copied l.left))) ≡ largest_for l.range (pieces comma l.field)

abbrev pub decreases-elements : goal.decreases-elements
decreases-elements l = left_of (option_copied l.left)
