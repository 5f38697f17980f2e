-- The action `find` (RFC 7808, section 5.5).
use Rattle.std.specs.Prelude.{List, Bool, ◌||◌, Result, Ok, Err}
use Rattle.std.specs.List.{list_any}
use Rattle.catalogue.specs.Histories.{EntryData}
use Rattle.catalogue.specs.Releases.{ReleaseData}
use Rattle.find_pattern.specs.Matching.{matches}
use Rattle.find_pattern.specs.Patterns.{pattern as pattern_in}
use Rattle.find_pattern.specs.declared.pattern_type.Pattern.{Pattern}
use Rattle.find_pattern.specs.declared.pattern_fault.BadPattern.{BadPattern}
use Rattle.http_answer.specs.declared.answer.Answer.{Answer}
use Rattle.json_forms.specs.declared.problem_type.Problem.TheVariants as problem
use Rattle.target.specs.declared.asked_types.Param.{Param}
use Rattle.target.specs.declared.asked_types.Param.TheVariants as param
use Rattle.actions.specs.Documents.{with_document, with_problem}
use Rattle.actions.specs.Listing.{list_body}

-- the zone's identifier or one of its aliases matches
abbrev pub is_found : Pattern → EntryData → Bool
is_found p e = matches p e.content.tzid || list_any (matches p) e.content.aliases

-- the zones that a pattern finds
abbrev pub found_by : List ReleaseData → Result Pattern BadPattern → Answer
found_by H (Ok p) = with_document (list_body H (is_found p))
found_by H (Err e) = with_problem problem.InvalidPattern

-- what a pattern that is given once finds
unfoldable pub find_answer : List ReleaseData → Param → Answer
find_answer H (param.Once text) = found_by H (pattern_in text)
find_answer H param.Absent = with_problem problem.InvalidPattern
find_answer H param.Repeated = with_problem problem.InvalidPattern
