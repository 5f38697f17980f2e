use Rattle.std.proofs.Common.{sym, ◌∙◌}
use Rattle.std.proofs.lemmas.Bool.{ne_eqb}
use Rattle.find_pattern.proofs.SameLemmas.{lengths_differ}
use Rattle.find_pattern.proofs.folding.is_same.Goals as goal

pub returns-else-text-other : goal.returns-else-text-other
returns-else-text-other c =
    ne_eqb _ _ c.if-text-other.false ∙ sym (lengths_differ c.args.text.now c.args.other.now c.if-text-other.false)
