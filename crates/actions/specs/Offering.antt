-- What a request is answered where only some formats of a zone's data are offered.
use Rattle.std.specs.Prelude.{ℕ, List, Option, Some, None, option_and_then}
use Rattle.std.specs.List.{slice_get}
use Rattle.td_base.specs.declared.report.Role.{Role}
use Rattle.catalogue.specs.Histories.{EntryData, meta}
use Rattle.catalogue.specs.Lookups.{place_named}
use Rattle.catalogue.specs.Releases.{ReleaseData}
use Rattle.http_answer.specs.declared.answer.Answer.{Answer}
use Rattle.http_request.specs.declared.head.Head.{Head}
use Rattle.json_forms.specs.declared.problem_type.Problem.TheVariants as problem
use Rattle.negotiate.specs.Choices.{NamedFormat, chosen_among}
use Rattle.target.specs.Actions.{asks}
use Rattle.target.specs.declared.asked_types.Asked.{Asked}
use Rattle.target.specs.declared.asked_types.Asked.TheVariants as ask
use Rattle.target.specs.declared.asked_types.Param.{Param}
use Rattle.actions.specs.Action.{answer_for}
use Rattle.actions.specs.Documents.{with_problem}
use Rattle.actions.specs.Getting.{format_answer}

-- of the zone that has the name, if there is one, in the format that is chosen among these
abbrev pub zone_answer_among : List NamedFormat → List ℕ → Option EntryData → Option (List ℕ)
    → Option (List ℕ) → Param → Param → Answer
zone_answer_among fs name (Some e) accept held start end =
    format_answer (chosen_among fs accept) name e held start end
zone_answer_among fs name None accept held start end = with_problem problem.TzidNotFound

-- no other answer looks at the formats that are offered; a server that is asked what it can do
-- lists all of them
abbrev pub answer_among : List NamedFormat → List ReleaseData → Role → Head → Asked → Answer
answer_among fs H role head ask.Capabilities = answer_for H role head ask.Capabilities
answer_among fs H role head (ask.List since) = answer_for H role head (ask.List since)
answer_among fs H role head (ask.Find pattern) = answer_for H role head (ask.Find pattern)
answer_among fs H role head (ask.Get tzid start end) =
    zone_answer_among fs tzid (option_and_then (slice_get (meta H)) (place_named H tzid))
    head.accept
    head.none_match start end
answer_among fs H role head (ask.Expand tzid start end) =
    answer_for H role head (ask.Expand tzid start end)
answer_among fs H role head ask.LeapSeconds = answer_for H role head ask.LeapSeconds
answer_among fs H role head ask.WellKnown = answer_for H role head ask.WellKnown
answer_among fs H role head ask.Unknown = answer_for H role head ask.Unknown

-- the answer to a request where these formats are offered
abbrev pub action_among : List NamedFormat → List ReleaseData → Role → Head → Answer
action_among fs H role head = answer_among fs H role head (asks head.target)
