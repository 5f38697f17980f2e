use Rattle.http_request.specs.Steps.{Steps}
use Rattle.http_request.specs.declared.head.Next.TheVariants as next
use Rattle.connection.proofs.HearLemmas.{AsksMore, fed_more, listens_none, lost}
use Rattle.connection.proofs.hearing.hear.Goals as goal

pub pieces-init : goal.pieces-init
pieces-init g c = record { listens = listens_none (g.C.Conn.seen c.args.conn.now) c.args.heads.now.rest; held = c.requires }

pub pieces-preserved : goal.pieces-preserved
pieces-preserved g c =
    let s : Steps c.pieces.heads.rest next.More c.next.new.self.rest = rw c.in-More.is at c.in_ok-head.ensures.steps in
    let more : AsksMore c.pieces.heads.rest c.next.new.self.rest = rw c.in-More.is at c.in_ok-head.ensures.cutting in
    record { listens = fed_more _ _ _ _ _ c.pieces.invariant.listens s.1 s.0 more _ _ c.in-Fed.ensures.feeds; held = c.in-Fed.ensures.held }

pub returns-in-NoMemory-clause-hears : goal.returns-in-NoMemory-clause-hears
returns-in-NoMemory-clause-hears g c =
    let s : Steps c.pieces.heads.rest next.More c.next.new.self.rest = rw c.in-More.is at c.in_ok-head.ensures.steps in
    let more : AsksMore c.pieces.heads.rest c.next.new.self.rest = rw c.in-More.is at c.in_ok-head.ensures.cutting in
    lost _ _ _ _ _ c.pieces.invariant.listens s.1 s.0 more _ _ _ c.in-NoMemory.ensures.feeds
