-- An answer with the calendar of a zone.
use Rattle.std.specs.Prelude.{◌≡◌, ◌≢◌, ◌⊎◌, ℕ, List, ℤ, Option, None, Some, option_and_then}
use Rattle.std.specs.List.{Contains}
use Rattle.serde_json.specs.Read.{read}
use Rattle.td_civil.specs.declared.local_time.Local.{Local}
use Rattle.td_civil.specs.declared.moment_type.Moment.{Moment}
use Rattle.catalogue.specs.Releases.{ContentData, ReleaseData}
use Rattle.http_answer.specs.declared.answer.Answer.{Answer}
use Rattle.http_request.specs.declared.head.Head.{Head}
use Rattle.jcal.specs.Reading.{spelled as spelled_by_tree}
use Rattle.recurrence.specs.InForce.{IsInForce}
use Rattle.recurrence.specs.Spelling.{Spelling}
use Rattle.recurrence.specs.declared.part_types.Part.{Part}
use Rattle.target.specs.Actions.{asks}
use Rattle.target.specs.declared.asked_types.Asked.TheVariants as ask
use Rattle.target.specs.declared.asked_types.Param.{Param}
use Rattle.zone_meaning.specs.State.{zone_state}
use Rattle.answer_laws.specs.Requested.{IsBegin, IsBetween, IsFinish, IsNamed}

-- what a text spells that is read as JSON, and then as a calendar
abbrev pub spelled_as_json : List ℕ → Option Spelling
spelled_as_json text = option_and_then spelled_by_tree (read text)

-- the identifier of the zone is given where the name is another one
abbrev pub IsAliasOf : List ℕ → List ℕ → Option (List ℕ) → Type 0
IsAliasOf name tzid alias_of =
    ((name ≡ tzid) × (alias_of ≡ None)) ⊎ ((name ≢ tzid) × (alias_of ≡ Some tzid))

-- one part is in force at a moment, and it has what the state says
pub record HasInForce (parts : List Part) (t : ℤ) (state : Local) : Type 0 where
  pub part : Part
  pub in_force : IsInForce (Contains parts) t part
  pub offset : part.to ≡ state.offset
  pub dst : part.dst ≡ state.dst
  pub name : part.name ≡ state.name

-- The head requests a zone by a name, between two bounds. The body reads as a calendar of that name
-- with that end, whose parts give at each moment between the bounds what the file of the zone does.
pub record IsCalendarOf (reads : List ℕ → Option Spelling) (H : List ReleaseData) (head : Head)
    (answer : Answer) : Type 0 where
  pub name : List ℕ
  pub start : Param
  pub end : Param
  pub requested : asks head.target ≡ ask.Get name start end
  pub zone : ContentData
  pub named : IsNamed H name zone
  pub from : Moment
  pub begins : IsBegin start from
  pub until : Option Moment
  pub ends : IsFinish from end until
  pub status : answer.status ≡ 200
  pub alias_of : Option (List ℕ)
  pub alias_is : IsAliasOf name zone.tzid alias_of
  pub parts : List Part
  pub spells : reads answer.body
      ≡ Some (record { tzid = name; alias_of = alias_of; until = until; parts = parts })
  pub tells : (t : ℤ) → IsBetween from until t → HasInForce parts t (zone_state zone.file t)
