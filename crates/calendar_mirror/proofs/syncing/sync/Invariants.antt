use Rattle.std.proofs.Common.{length}
use Rattle.http_client.specs.CalendarRequests.{calendar_request_text}
use Rattle.mirror.specs.Turns.{HasWalked}
use Rattle.mirror.proofs.lemmas.Walks.{left}
use Rattle.calendar_mirror.specs.Judging.{MeansSound}
use Rattle.calendar_mirror.proofs.syncing.sync.Given as goal

abbrev pub invariant-asking : goal.invariant-asking
invariant-asking g l =
    HasWalked (calendar_request_text l.host) MeansSound l.fn.mirror l.mirror (g.U.Upstream.seen l.fn.upstream) (g.U.Upstream.seen l.upstream) l.lists l.asked

abbrev pub decreases-asking : goal.decreases-asking
decreases-asking g l = left l.lists (length l.mirror.pending)
