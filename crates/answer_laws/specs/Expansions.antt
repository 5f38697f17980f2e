-- An answer with the observances of a zone.
use Rattle.std.specs.Prelude.{◌≡◌, ℕ, List, ◌≤ℤ◌, ◌<ℤ◌, ℤ, codes, Option, Some, option_and_then}
use Rattle.std.specs.List.{Contains}
use Rattle.serde_json.specs.Data.{Data, array}
use Rattle.serde_json.specs.Find.{as_number, as_str, get, of_integer}
use Rattle.serde_json.specs.Read.{read}
use Rattle.serde_json.specs.View.{items_of}
use Rattle.td_civil.specs.Reading.{moment_in}
use Rattle.td_civil.specs.declared.local_time.Local.{Local}
use Rattle.td_civil.specs.declared.local_time.Observance.{Observance}
use Rattle.td_civil.specs.declared.moment_type.Moment.{Moment}
use Rattle.catalogue.specs.Releases.{ContentData, ReleaseData}
use Rattle.http_answer.specs.declared.answer.Answer.{Answer}
use Rattle.json_forms.specs.ExpansionDocument.{expansion_data}
use Rattle.target.specs.declared.asked_types.Param.{Param}
use Rattle.zone_meaning.specs.State.{zone_state}
use Rattle.release_laws.specs.States.{AreOfStates}
use Rattle.answer_laws.specs.Requested.{IsBegin, IsFinish, IsNamed}

-- the onset of an observance of the document
abbrev pub onset_in : Data → Option ℤ
onset_in item = option_and_then moment_in (option_and_then as_str (get (codes "onset") item))

-- The last observance of the document that is not after t has the name and the offset of a state
-- (RFC 7808, section 6.3).
pub record SaysAt (document : Data) (t : ℤ) (state : Local) : Type 0 where
  pub items : List Data
  pub items_are : get (codes "observances") document ≡ Some (array (items_of items))
  pub item : Data
  pub there : Contains items item
  pub onset : ℤ
  pub onset_is : onset_in item ≡ Some onset
  pub begun : onset ≤ℤ t
  pub last : (other : Data) (v : ℤ) → Contains items other → onset_in other ≡ Some v → v ≤ℤ t
      → v ≤ℤ onset
  pub name : option_and_then as_str (get (codes "name") item) ≡ Some state.name
  pub offset : option_and_then as_number (get (codes "utc-offset-to") item)
      ≡ Some (of_integer state.offset)

-- The body reads as the document of the observances of the zone that has the name, between the
-- bounds, of which both are given. At each moment between them it says what the zone's file does.
pub record IsExpansionOf (H : List ReleaseData) (name : List ℕ) (start end : Param)
    (answer : Answer) : Type 0 where
  pub zone : ContentData
  pub named : IsNamed H name zone
  pub from : Moment
  pub begins : IsBegin start from
  pub until : Moment
  pub ends : IsFinish from end (Some until)
  pub observances : List Observance
  pub are : AreOfStates (zone_state zone.file) from.seconds until.seconds observances
  pub document : Data
  pub document_is : document ≡ expansion_data name from.seconds until.seconds observances
  pub reads : read answer.body ≡ Some document
  pub tells : (t : ℤ) → from.seconds ≤ℤ t → t <ℤ until.seconds
      → SaysAt document t (zone_state zone.file t)
