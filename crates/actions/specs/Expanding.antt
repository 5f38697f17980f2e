-- The action `expand` (RFC 7808, section 5.4).
use Rattle.std.specs.Prelude.{ℤ, List, ℕ, Option, Some, None, option_and_then, Result, Ok, Err}
use Rattle.std.specs.List.{slice_get}
use Rattle.catalogue.specs.Histories.{EntryData, meta}
use Rattle.catalogue.specs.Lookups.{place_named}
use Rattle.catalogue.specs.Releases.{ReleaseData}
use Rattle.http_answer.specs.declared.answer.Answer.{Answer}
use Rattle.json_forms.specs.ExpansionDocument.{expansion_document}
use Rattle.json_forms.specs.declared.problem_type.Problem.{Problem}
use Rattle.json_forms.specs.declared.problem_type.Problem.TheVariants as problem
use Rattle.target.specs.declared.asked_types.Param.{Param}
use Rattle.zone_meaning.specs.Observed.{observed}
use Rattle.zone_meaning.specs.State.{zone_state}
use Rattle.actions.specs.declared.bounds.Bounds.{Bounds}
use Rattle.actions.specs.declared.bounds.BoundRule.TheVariants as rule
use Rattle.actions.specs.Bounds.{begin_of, bounds_in, finish_of}
use Rattle.actions.specs.Documents.{with_document, with_problem}

-- the observances of a file from one moment to another
abbrev pub expansion : List ℕ → List ℕ → ℤ → ℤ → List ℕ
expansion name file from until =
    expansion_document name from until (observed (zone_state file) from until)

-- between the bounds that are asked for, unless one is refused
abbrev pub expansion_between : List ℕ → List ℕ → Result Bounds Problem → Answer
expansion_between name file (Ok bounds) =
    with_document
    (expansion name file (begin_of bounds.start).seconds (finish_of bounds.end).seconds)
expansion_between name file (Err refused) = with_problem refused

-- of the zone that has the name, if there is one; both bounds have to be given
abbrev pub expansion_answer : List ℕ → Option EntryData → Param → Param → Answer
expansion_answer name (Some e) start end =
    expansion_between name e.content.file (bounds_in rule.Required start end)
expansion_answer name None start end = with_problem problem.TzidNotFound

-- the observances of a zone between two moments; its name is shown as it was asked for
unfoldable pub expand_answer : List ReleaseData → List ℕ → Param → Param → Answer
expand_answer H name start end =
    expansion_answer name (option_and_then (slice_get (meta H)) (place_named H name)) start end
