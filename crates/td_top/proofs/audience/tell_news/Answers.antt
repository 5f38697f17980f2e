use Rattle.std.proofs.Common.{refl}
use Rattle.console.specs.declared.line.Line.TheVariants as line
use Rattle.td_top.proofs.AudienceLemmas.{has_number, is_of_nobody, is_starved, is_told}
use Rattle.td_top.proofs.audience.tell_news.Goals as goal

pub clear-requires-clause-some : goal.clear-requires-clause-some
clear-requires-clause-some
    c = (has_number c.args.session.now.installer.subscribers c.args.number c.in-Ok-Some.text (rw c.in-Ok-Some.field-0-is at c.in-Ok-Some.ensures)).0

pub clear-requires-clause-there : goal.clear-requires-clause-there
clear-requires-clause-there
    c = (has_number c.args.session.now.installer.subscribers c.args.number c.in-Ok-Some.text (rw c.in-Ok-Some.field-0-is at c.in-Ok-Some.ensures)).1

pub returns-in-Ok-Some : goal.returns-in-Ok-Some
returns-in-Ok-Some c = λ feed asked same. rw same (
    is_told feed c.args.session.now _ c.args.number c.in-Ok-Some.text _ c.clear.ensures refl (rw c.in-Ok-Some.field-0-is at c.in-Ok-Some.ensures) refl)

pub returns-in-Ok-None : goal.returns-in-Ok-None
returns-in-Ok-None c = λ feed asked same. rw same (
    is_of_nobody feed c.args.session.now c.args.number _ (rw c.in-Ok-None.field-0-is at c.in-Ok-None.ensures) c.nobody.ensures)

pub returns-in-Err : goal.returns-in-Err
returns-in-Err c = λ feed asked same. rw same (is_starved feed c.args.session.now _ (line.News c.args.number) _ refl refl tt c.brief.ensures)
