use Rattle.ical_lines.proofs.FoldLemmas.{short_line}
use Rattle.ical_lines.proofs.folding.append_short.Goals as goal

pub returns-clause-ok : goal.returns-clause-ok
returns-clause-ok c =
    rw (c.in_ok-append-4.ensures.ok, c.in_ok-append-3.ensures.ok, c.in_ok-append-2.ensures.ok, c.in_ok-append.ensures.ok)
    (short_line c.args.out.now c.args.name.now c.args.value.now c.requires)
