use Rattle.std.proofs.Common.{◌≡◌, length}
use Rattle.td_base.specs.Texts.{skip_blanks}
use Rattle.td_base.proofs.texts.trim_start.Given as goal

abbrev pub invariant-blanks : goal.invariant-blanks
invariant-blanks l = skip_blanks l.left ≡ skip_blanks l.text

abbrev pub decreases-blanks : goal.decreases-blanks
decreases-blanks l = length l.left
