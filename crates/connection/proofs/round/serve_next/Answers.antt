use Rattle.std.proofs.Common.{sym, ◌∙◌, inr, refl}
use Rattle.connection.proofs.RoundLemmas as rounds
use Rattle.connection.proofs.round.serve_next.Goals as goal

pub returns-in-Given-clause-serves : goal.returns-in-Given-clause-serves
returns-in-Given-clause-serves g c =
    rounds.given _ g.D.Conn.Conn.seen _ _ _ _ _ _ _ _ _ c.in-Given.ensures.accepts c.serve_over-report.ensures.served
    (record {
      pair = c.serve_over-report.ensures.pair;
      longer = c.serve_over-report.ensures.seen;
      ended = λ over. ((c.serve_over-report.ensures.ended over).0, (c.serve_over-report.ensures.ended over).1);
    })
    c.serve_over-report.ensures.first c.serve_over-report.ensures.counted c.finish.ensures.finishes

pub returns-then-is_raised-clause-serves : goal.returns-then-is_raised-clause-serves
returns-then-is_raised-clause-serves g c =
    rounds.idle _ g.D.Conn.Conn.seen _ _ _ _ _ _ c.in-Idle.ensures.accepts c.is_raised.ensures.flag
    (c.in-Idle.ensures.accepts.last, sym c.is_raised.ensures.seen ∙ c.if-is_raised.true, c.in-Idle.ensures.accepts.steady refl)

pub returns-else-is_raised-clause-serves : goal.returns-else-is_raised-clause-serves
returns-else-is_raised-clause-serves g c =
    rounds.idle _ g.D.Conn.Conn.seen _ _ _ _ _ _ c.in-Idle.ensures.accepts c.is_raised.ensures.flag
    (inr (c.in-Idle.ensures.accepts.last, sym c.is_raised.ensures.seen ∙ c.if-is_raised.false), c.in-Idle.ensures.accepts.steady refl)

pub returns-in-Ended-clause-serves : goal.returns-in-Ended-clause-serves
returns-in-Ended-clause-serves g c = rounds.ended _ g.D.Conn.Conn.seen _ _ _ _ c.in-Ended.ensures.accepts

pub returns-in-Failed-clause-serves : goal.returns-in-Failed-clause-serves
returns-in-Failed-clause-serves g c = rounds.failed _ g.D.Conn.Conn.seen _ _ _ _ c.in-Failed.ensures.accepts

pub finish-requires : goal.finish-requires
finish-requires g c = rounds.is_out g.D.Conn.Conn.seen _ _ _ c.requires.door c.in-Given.ensures.accepts
