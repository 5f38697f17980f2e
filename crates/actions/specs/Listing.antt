-- The action `list` (RFC 7808, section 5.2).
use Rattle.std.specs.Prelude.{ℕ, List, [], ◌∷◌, length, map, filter, Bool, true, if◌then◌else◌}
use Rattle.std.specs.Prelude.{Option, Some, None}
use Rattle.catalogue.specs.Histories.{EntryData, meta, token_of}
use Rattle.catalogue.specs.Lookups.{delta, place_of}
use Rattle.catalogue.specs.Releases.{ReleaseData}
use Rattle.http_answer.specs.declared.answer.Answer.{Answer}
use Rattle.json_forms.specs.ListDocument.{list_document}
use Rattle.json_forms.specs.declared.problem_type.Problem.TheVariants as problem
use Rattle.json_forms.specs.declared.zone_list.ListZone.{ListZone}
use Rattle.target.specs.declared.asked_types.Param.{Param}
use Rattle.target.specs.declared.asked_types.Param.TheVariants as param
use Rattle.actions.specs.Documents.{with_document, with_problem}

-- a zone of a release, as a list shows it
abbrev pub list_zone : EntryData → ListZone
list_zone e = record {
  tzid = e.content.tzid;
  etag = e.tag;
  stamp = record { seconds = e.stamp };
  publisher = e.publisher;
  version = e.version;
  aliases = e.content.aliases;
}

-- the zones of the last release that pass the test, with the token of the last place
unfoldable pub list_body : List ReleaseData → (EntryData → Bool) → List ℕ
list_body H shows = list_document (token_of H (length H)) (map list_zone (filter shows (meta H)))

-- the zones whose content last changed after a place
unfoldable pub change_list : List ReleaseData → ℕ → List ℕ
change_list H n = list_document (token_of H (length H)) (map list_zone (delta H n))

abbrev pub changes_since : List ReleaseData → Option ℕ → Answer
changes_since H (Some n) = with_document (change_list H n)
changes_since H None = with_problem problem.InvalidChangedsince

-- all zones, or those that changed since the one of the last places of which this is the token
unfoldable pub list_answer : List ReleaseData → Param → Answer
list_answer H param.Absent = with_document (list_body H (λ _. true))
list_answer H (param.Once token) = changes_since H (place_of H token)
list_answer H param.Repeated = with_problem problem.InvalidChangedsince

-- what one entry adds to a list
abbrev pub list_zone_if : (EntryData → Bool) → EntryData → List ListZone
list_zone_if shows e = if shows e then list_zone e ∷ [] else []
