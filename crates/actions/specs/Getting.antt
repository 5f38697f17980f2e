-- The action `get` (RFC 7808, section 5.3): the data of a zone.
use Rattle.std.specs.Prelude.{ℕ, List, Bool, false, if◌then◌else◌, Option, Some, None}
use Rattle.std.specs.Prelude.{option_and_then, Result, Ok, Err}
use Rattle.std.specs.List.{slice_get}
use Rattle.catalogue.specs.Histories.{EntryData, meta}
use Rattle.catalogue.specs.Lookups.{place_named}
use Rattle.catalogue.specs.Releases.{ReleaseData}
use Rattle.http_answer.specs.declared.answer.Answer.{Answer}
use Rattle.http_answer.specs.declared.answer.Kind.{Kind}
use Rattle.json_forms.specs.declared.problem_type.Problem.{Problem}
use Rattle.json_forms.specs.declared.problem_type.Problem.TheVariants as problem
use Rattle.negotiate.specs.Choices.{chosen_format}
use Rattle.negotiate.specs.Tags.{none_match}
use Rattle.negotiate.specs.declared.choosing.Format.{Format}
use Rattle.target.specs.declared.asked_types.Param.{Param}
use Rattle.actions.specs.declared.bounds.Bounds.{Bounds}
use Rattle.actions.specs.Bounds.{bounds_in}
use Rattle.actions.specs.Documents.{with_data, with_problem, not_modified}
use Rattle.actions.specs.Formats.{FormData, format_data}
use Rattle.actions.specs.Tags.{data_tag}

-- the client holds what has this tag (RFC 9110, section 13.1.2)
abbrev pub is_held : Option (List ℕ) → List ℕ → Bool
is_held None tag = false
is_held (Some held) tag = none_match held tag

-- the data with their tag, or the tag alone, where the client holds them
abbrev pub unless_held : Option (List ℕ) → Kind → List ℕ → List ℕ → Answer
unless_held held kind tag body =
    if is_held held tag then not_modified tag else with_data kind tag body

-- in a format, between the bounds that are asked for, unless one is refused
abbrev pub form_answer : FormData → List ℕ → EntryData → Option (List ℕ) → Result Bounds Problem
    → Answer
form_answer form name e held (Ok bounds) =
    unless_held held form.kind (data_tag e.tag form.mark bounds) (form.text name e.content bounds)
form_answer form name e held (Err refused) = with_problem refused

-- in the format that was chosen, if one was
abbrev pub format_answer : Option Format → List ℕ → EntryData → Option (List ℕ) → Param → Param
    → Answer
format_answer (Some format) name e held start end =
    form_answer (format_data format) name e held (bounds_in (format_data format).bounds start end)
format_answer None name e held start end = with_problem problem.InvalidFormat

-- of the zone that has the name, if there is one
abbrev pub zone_answer : List ℕ → Option EntryData → Option (List ℕ) → Option (List ℕ) → Param
    → Param → Answer
zone_answer name (Some e) accept held start end =
    format_answer (chosen_format accept) name e held start end
zone_answer name None accept held start end = with_problem problem.TzidNotFound

-- The data of the zone that has the name, in the format that the Accept fields choose; `held` are
-- the If-None-Match fields. The name stands in a calendar as it was asked for.
unfoldable pub get_answer : List ReleaseData → Option (List ℕ) → Option (List ℕ) → List ℕ → Param
    → Param → Answer
get_answer H accept held name start end =
    zone_answer name (option_and_then (slice_get (meta H)) (place_named H name)) accept held start
    end
