-- An answer with the file of a zone.
use Rattle.std.specs.Prelude.{◌≡◌, ℕ, List}
use Rattle.catalogue.specs.Releases.{ContentData, ReleaseData}
use Rattle.http_answer.specs.declared.answer.Answer.{Answer}
use Rattle.http_request.specs.declared.head.Head.{Head}
use Rattle.target.specs.Actions.{asks}
use Rattle.target.specs.declared.asked_types.Asked.TheVariants as ask
use Rattle.target.specs.declared.asked_types.Param.TheVariants.{Absent}
use Rattle.answer_laws.specs.Requested.{IsNamed}

-- the head requests a zone by a name, without bounds, and the body is the file of the zone
pub record IsFileOf (H : List ReleaseData) (head : Head) (answer : Answer) : Type 0 where
  pub name : List ℕ
  pub requested : asks head.target ≡ ask.Get name Absent Absent
  pub zone : ContentData
  pub named : IsNamed H name zone
  pub status : answer.status ≡ 200
  pub bytes : answer.body ≡ zone.file
