use Rattle.std.proofs.Common.{subst}
use Rattle.memchr.specs.Find.{IsFirstByte, is_byte}
use Rattle.td_base.proofs.CutLemmas.{cut_first, cut_none}
use Rattle.td_base.proofs.texts.cut.Goals as goal

pub returns-in-Some-clause-cut : goal.returns-in-Some-clause-cut
returns-in-Some-clause-cut c =
    cut_first c.args.separator c.args.text.now c.in-Some.at (subst (IsFirstByte (is_byte c.args.separator) c.args.text.now) c.in-Some.is c.memchr.ensures)

pub returns-in-None-clause-cut : goal.returns-in-None-clause-cut
returns-in-None-clause-cut c =
    cut_none c.args.separator c.args.text.now (subst (IsFirstByte (is_byte c.args.separator) c.args.text.now) c.in-None.is c.memchr.ensures)
