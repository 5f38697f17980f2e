use Rattle.catalogue.specs.Holdings.{history_of}
use Rattle.plain_commands.proofs.LoadLemmas.{request_counted}
use Rattle.plain_commands.proofs.loading.load_turns.serve_request.Goals as goal

pub returns-clause-counted : goal.returns-clause-counted
returns-clause-counted c =
    request_counted (history_of c.args.desk.now.seen) c.args.request.now c.bring.new.conn c.serve_one.new.conn _ c.args.counts.now
    c.count_reply.new.counts
    c.in_ok-bring.ensures c.in_ok-serve_one.ensures.closes (rw (c.taken-begin.ensures, c.taken.ensures) at c.skip.ensures) c.in_ok-count_reply.ensures
