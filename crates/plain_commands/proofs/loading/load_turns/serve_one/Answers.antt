use Rattle.std.proofs.Common.{rules}
use Rattle.catalogue.specs.Holdings.{history_of}
use Rattle.plain_commands.proofs.LoadLemmas.{closes_over, saw_no_more}
use Rattle.plain_commands.proofs.loading.load_turns.serve_one.Goals as goal

pub returns-in-Closed-clause-seen : goal.returns-in-Closed-clause-seen
returns-in-Closed-clause-seen c =
    saw_no_more c.args.desk.now.seen c.serve-report.new.desk.seen _ _ c.serve-report.ensures.seen
    (c.count-before.ensures.count (history_of c.args.desk.now.seen) c.value.ensures.stands)
    (c.count.ensures.count (history_of c.serve-report.new.desk.seen) c.value-2.ensures.stands) (search rules)

pub returns-in-Closed-clause-closes : goal.returns-in-Closed-clause-closes
returns-in-Closed-clause-closes c =
    closes_over c.serve-report.new.desk c.args.desk.now.seen _ _ c.serve-report.result.places c.serve-report.result.end c.in-Closed.is
    (saw_no_more c.args.desk.now.seen c.serve-report.new.desk.seen _ _ c.serve-report.ensures.seen
    (c.count-before.ensures.count (history_of c.args.desk.now.seen) c.value.ensures.stands)
    (c.count.ensures.count (history_of c.serve-report.new.desk.seen) c.value-2.ensures.stands) (search rules))
    (search rules) c.serve-report.ensures.first c.serve-report.ensures.served
