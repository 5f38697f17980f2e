use Rattle.http_client.proofs.Spans.{reads_copy, reads_fault, unread}
use Rattle.http_client.proofs.reading.read_spans.Goals as goal

pub returns-in-Some-clause-fault : goal.returns-in-Some-clause-fault
returns-in-Some-clause-fault c = λ _.
    reads_fault c.args.bytes.now c.args.room.now c.args.spans c.requires.room c.skip-body.result.now c.in-Some.place c.requires.head c.skip-body.ensures
    c.in-Some.ensures

pub returns-in_err-body-in-None-clause-memory : goal.returns-in_err-body-in-None-clause-memory
returns-in_err-body-in-None-clause-memory c =
    unread c.args.bytes.now c.args.room.now c.args.spans c.requires.room c.skip-body.result.now c.from_residual.result c.requires.head c.skip-body.ensures
    c.in-None.ensures

pub returns-in_ok-body-in-None-clause-found : goal.returns-in_ok-body-in-None-clause-found
returns-in_ok-body-in-None-clause-found c =
    reads_copy c.args.bytes.now c.args.room.now c.args.spans c.requires.room c.in_ok-body-in-None.body c.skip-body.result.now c.requires.head
    c.in_ok-body-in-None.ensures c.skip-body.ensures c.in-None.ensures
