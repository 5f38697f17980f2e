use Rattle.std.proofs.Common.{refl, ap, ◌∙◌}
use Rattle.catalogue.specs.Holdings.{history_of}
use Rattle.console.specs.Replies.{reply_text}
use Rattle.td_base.proofs.lemmas.Beginnings.{prefix_self}
use Rattle.console.specs.declared.line.Line.TheVariants as line
use Rattle.run_ends.specs.Operator.{no_memory}
use Rattle.td_top.proofs.LineLemmas.{is_shown, stays}
use Rattle.td_top.proofs.operator.show.Goals as goal

pub returns-in-Ok-clause-answers : goal.returns-in-Ok-clause-answers
returns-in-Ok-clause-answers c = λ feed asked same. rw same (
    is_shown feed c.args.session.now _ _
    (record { installer = refl; desk = c.enter.ensures.pair; published = prefix_self c.args.session.now.installer.list; seen = c.enter.ensures.seen })
    refl (c.brief.ensures ∙ ap reply_text (c.serving.ensures.said (history_of c.enter.new.self.seen) c.value.ensures.stands)))

pub returns-in-Err-clause-answers : goal.returns-in-Err-clause-answers
returns-in-Err-clause-answers c = λ feed asked same. rw same (
    stays feed c.args.session.now _ line.Status _
    (record { installer = refl; desk = c.enter.ensures.pair; published = prefix_self c.args.session.now.installer.list; seen = c.enter.ensures.seen })
    refl (λ whole talk stands. no_memory tt c.brief-in-Err.ensures refl))
