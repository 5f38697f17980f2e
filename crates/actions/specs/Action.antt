-- What a request is answered, over a history (RFC 7808, section 5): one case an action, over the
-- last release.
use Rattle.std.specs.Prelude.{List}
use Rattle.td_base.specs.declared.report.Role.{Role}
use Rattle.catalogue.specs.Releases.{ReleaseData}
use Rattle.http_answer.specs.declared.answer.Answer.{Answer}
use Rattle.http_request.specs.declared.head.Head.{Head}
use Rattle.target.specs.Actions.{asks}
use Rattle.target.specs.declared.asked_types.Asked.{Asked}
use Rattle.target.specs.declared.asked_types.Asked.TheVariants as ask
use Rattle.actions.specs.Describing.{capabilities_answer, redirect}
use Rattle.actions.specs.Documents.{unknown_action}
use Rattle.actions.specs.Expanding.{expand_answer}
use Rattle.actions.specs.Finding.{find_answer}
use Rattle.actions.specs.Getting.{get_answer}
use Rattle.actions.specs.LeapSeconds.{leap_answer}
use Rattle.actions.specs.Listing.{list_answer}

-- the answer to what was asked; only the data of a zone depend on fields of the head
abbrev pub answer_for : List ReleaseData → Role → Head → Asked → Answer
answer_for H role head ask.Capabilities = capabilities_answer H role
answer_for H role head (ask.List since) = list_answer H since
answer_for H role head (ask.Find pattern) = find_answer H pattern
answer_for H role head (ask.Get tzid start end) =
    get_answer H head.accept head.none_match tzid start end
answer_for H role head (ask.Expand tzid start end) = expand_answer H tzid start end
answer_for H role head ask.LeapSeconds = leap_answer H
answer_for H role head ask.WellKnown = redirect
answer_for H role head ask.Unknown = unknown_action

-- the answer to a request
unfoldable pub action : List ReleaseData → Role → Head → Answer
action H role head = answer_for H role head (asks head.target)
