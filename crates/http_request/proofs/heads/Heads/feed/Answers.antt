use Rattle.std.proofs.Common.{◌++◌, sym, subst}
use Rattle.http_request.specs.Asks.{Gives}
use Rattle.http_request.specs.Holding.{HeadsView}
use Rattle.http_request.proofs.AskLemmas.{gives_feed}
use Rattle.http_request.proofs.HeldLemmas.{scanned_feed}
use Rattle.http_request.proofs.heads.Heads.feed.Goals as goal

pub invariant_of-self-2 : goal.invariant_of-self-2
invariant_of-self-2 c = rw c.in_ok-append.ensures.ok (scanned_feed c.self.inside.held.rest c.args.piece.now c.self.inside.scan c.self.invariant)

pub returns-clause-cutting : goal.returns-clause-cutting
returns-clause-cutting c = λ all given g.
    rw c.in_ok-append.ensures.ok
    (subst (λ (v : HeadsView). Gives (all ++ c.args.piece.now) given (v.rest ++ c.args.piece.now)) (sym c.self.view_is)
    (gives_feed all c.args.piece.now given c.args.self.now.rest g))
