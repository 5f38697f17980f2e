-- What the responses are that a mirror takes.
use Rattle.std.specs.Prelude.{◌≡◌, ℕ, List, Option, Some, Ok}
use Rattle.httparse.specs.Grammar.{ReadsResponse, ResponseHead, status_code}
use Rattle.td_base.specs.declared.report.Ask.{Ask}
use Rattle.td_base.specs.declared.report.Ask.TheVariants as ask
use Rattle.json_forms.specs.ListReading.{list_read}
use Rattle.json_forms.specs.ProblemDocument.{problem_in}
use Rattle.json_forms.specs.declared.problem_type.Problem.TheVariants.{InvalidChangedsince}
use Rattle.json_forms.specs.declared.zone_list.ListDoc.{ListDoc}

-- the bytes are a head with this status and then this body
pub record HasReply (bytes : List ℕ) (status : ℕ) (body : List ℕ) : Type 0 where
  pub head : ResponseHead
  pub reads : ReadsResponse bytes head body
  pub status_is : status_code head ≡ status

-- a list was requested, and the body is this one
pub record IsListResponse (a : Ask) (bytes : List ℕ) (doc : ListDoc) : Type 0 where
  pub token : Option (List ℕ)
  pub asked : a ≡ ask.List token
  pub body : List ℕ
  pub reply : HasReply bytes 200 body
  pub reads : list_read body ≡ Ok doc

-- a zone was requested, and the body is its data
pub record IsZoneResponse (a : Ask) (bytes file : List ℕ) : Type 0 where
  pub name : List ℕ
  pub asked : a ≡ ask.Get name
  pub reply : HasReply bytes 200 file

-- a list was requested with a token, and the body is the problem with it
pub record IsTokenRefusal (a : Ask) (bytes : List ℕ) : Type 0 where
  pub token : List ℕ
  pub asked : a ≡ ask.List (Some token)
  pub body : List ℕ
  pub reply : HasReply bytes 400 body
  pub reads : problem_in body ≡ Some InvalidChangedsince
