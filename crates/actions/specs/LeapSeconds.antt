-- The action `leapseconds` (RFC 7808, section 5.6).
use Rattle.std.specs.Prelude.{List, Option, Some, None}
use Rattle.catalogue.specs.Histories.{last_release}
use Rattle.catalogue.specs.Releases.{ReleaseData}
use Rattle.catalogue.specs.declared.release.Leaps.{Leaps}
use Rattle.http_answer.specs.declared.answer.Answer.{Answer}
use Rattle.json_forms.specs.LeapDocument.{leap_document}
use Rattle.actions.specs.Documents.{with_document, unknown_action}

-- the table of a release, if it has one
abbrev pub table_told : ReleaseData → Option Leaps → Answer
table_told r (Some leaps) = with_document (leap_document leaps r.publisher r.version)
table_told r None = unknown_action

abbrev pub leaps_told : Option ReleaseData → Answer
leaps_told (Some r) = table_told r r.leaps
leaps_told None = unknown_action

-- the table of leap seconds of the last release
unfoldable pub leap_answer : List ReleaseData → Answer
leap_answer H = leaps_told (last_release H)
