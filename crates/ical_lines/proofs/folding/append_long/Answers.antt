use Rattle.std.proofs.Common.{◌∙◌}
use Rattle.ical_lines.proofs.FoldLemmas.{three_parts}
use Rattle.ical_lines.proofs.folding.append_long.Goals as goal

pub returns-clause-ok : goal.returns-clause-ok
returns-clause-ok c =
    c.in_ok-append.ensures.ok
    ∙ three_parts c.args.name.now c.args.value.now c.args.out.now _ _ _ _ _ _
    c.in_ok-after_name.ensures.ok c.in_ok-after_colon.ensures.ok c.in_ok-append_folded.ensures.ok
