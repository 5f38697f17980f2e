use Rattle.std.proofs.Common.{length}
use Rattle.http_client.specs.Requests.{request_text}
use Rattle.mirror.specs.Turns.{HasWalked}
use Rattle.mirror.specs.Understanding.{Means}
use Rattle.mirror.proofs.lemmas.Walks.{left}
use Rattle.mirror.proofs.syncing.sync.Given as goal

abbrev pub invariant-asking : goal.invariant-asking
invariant-asking g l =
    HasWalked (request_text l.host) Means l.fn.mirror l.mirror (g.U.Upstream.seen l.fn.upstream) (g.U.Upstream.seen l.upstream) l.lists l.asked

abbrev pub decreases-asking : goal.decreases-asking
decreases-asking g l = left l.lists (length l.mirror.pending)
