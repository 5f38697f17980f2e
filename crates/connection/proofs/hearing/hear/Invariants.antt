use Rattle.std.proofs.Common.{length, ◌-◌, ◌≤◌}
use Rattle.http_request.specs.declared.limits.TheConstants.{MOST_HEAD_BYTES}
use Rattle.connection.specs.Hearing.{most_held}
use Rattle.connection.proofs.HearLemmas.{Listens}
use Rattle.connection.proofs.hearing.hear.Given as goal

abbrev pub invariant-pieces : goal.invariant-pieces
invariant-pieces g l = record {
  listens : Listens (g.C.Conn.seen l.fn.conn) (g.C.Conn.seen l.conn) l.fn.heads.rest l.heads.rest;
  held : l.heads.size ≤ most_held;
}

abbrev pub decreases-pieces : goal.decreases-pieces
decreases-pieces g l = MOST_HEAD_BYTES - length l.heads.rest
