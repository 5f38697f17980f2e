use Rattle.std.proofs.Common.{rules}
use Rattle.actions.proofs.LastRelease.{publisher_is_plain, capabilities_are}
use Rattle.actions.proofs.describing.capabilities.Goals as goal

pub capabilities_text-requires-clause-publisher : goal.capabilities_text-requires-clause-publisher
capabilities_text-requires-clause-publisher c =
    publisher_is_plain c.requires.history.0 _ c.requires.history.1.history (c.publisher.ensures c.requires.history.0 c.requires.history.1)

pub returns-clause-answer : goal.returns-clause-answer
returns-clause-answer c =
    λ H stands.
    rw (c.document.ensures, c.in_ok-capabilities_text.ensures.ok, c.new-body.ensures)
    (capabilities_are H c.args.role.now _ _ _ (c.publisher.ensures H stands) (c.leaps.ensures H stands) (search rules))
