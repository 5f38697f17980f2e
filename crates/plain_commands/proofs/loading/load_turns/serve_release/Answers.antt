use Rattle.catalogue.specs.Holdings.{history_of}
use Rattle.plain_commands.proofs.loading.load_turns.serve_release.Goals as goal

pub returns-clause-counted : goal.returns-clause-counted
returns-clause-counted c =
    let asked = c.in_ok-asked.ensures (history_of c.args.desk.now.seen) c.value-catalogue.ensures.stands in
    rw (c.as_slice.ensures, asked, c.add_release.ensures) at c.in_ok-serve_requests.ensures.counted
