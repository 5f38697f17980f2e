-- The action `capabilities` (RFC 7808, section 5.1), and the redirect of the well-known address
-- (RFC 7808, section 4.2.1.3).
use Rattle.std.specs.Prelude.{List, [], Option, Some, None, true}
use Rattle.std.specs.Option.{is_some}
use Rattle.td_base.specs.declared.report.Role.{Role}
use Rattle.catalogue.specs.Histories.{last_release}
use Rattle.catalogue.specs.Releases.{ReleaseData}
use Rattle.http_answer.specs.declared.answer.Answer.{Answer}
use Rattle.json_forms.specs.CapabilitiesDocument.{capabilities_document}
use Rattle.actions.specs.Documents.{with_document, unknown_action}

-- of a server of this role over this release
abbrev pub capabilities_of : Role → Option ReleaseData → Answer
capabilities_of role (Some r) =
    with_document (capabilities_document role r.publisher (is_some r.leaps))
capabilities_of role None = unknown_action

unfoldable pub capabilities_answer : List ReleaseData → Role → Answer
capabilities_answer H role = capabilities_of role (last_release H)

-- the context path of the service, to which a client is sent
abbrev pub redirect : Answer
redirect = record { status = 301; kind = None; tag = None; moved = true; body = [] }
