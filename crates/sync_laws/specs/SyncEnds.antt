-- The last exchange of a sync that ended well.
use Rattle.std.specs.Prelude.{◌≡◌, ℕ, List, [], ◌∷◌, ◌++◌, Some, Ok}
use Rattle.td_base.specs.declared.report.Ask.{Ask}
use Rattle.td_base.specs.declared.report.Ask.TheVariants as ask
use Rattle.td_base.specs.declared.upstream.Exchange.{Exchange}
use Rattle.json_forms.specs.ListReading.{list_read}
use Rattle.json_forms.specs.declared.zone_list.ListDoc.{ListDoc}
use Rattle.http_client.specs.Requests.{request_text}
use Rattle.sync_core.specs.declared.heard_type.Heard.{Heard}
use Rattle.sync_core.specs.declared.heard_type.Heard.TheVariants as heard
use Rattle.sync_laws.specs.Responses.{HasReply}

-- a list was requested with a token, and what came is a list without a zone
pub record IsEmptyChangeList (a : Ask) (h : Heard) : Type 0 where
  pub token : List ℕ
  pub asked : a ≡ ask.List (Some token)
  pub doc : ListDoc
  pub came : h ≡ heard.List doc
  pub empty : doc.zones ≡ []

-- so it is in the bytes of the last exchange
pub record EndsUnchanged (host : List ℕ) (taken : List Exchange) : Type 0 where
  pub first : List Exchange
  pub last : Exchange
  pub parts : taken ≡ first ++ last ∷ []
  pub token : List ℕ
  pub asked : last.request ≡ request_text host (ask.List (Some token))
  pub body : List ℕ
  pub reply : HasReply last.answer 200 body
  pub doc : ListDoc
  pub reads : list_read body ≡ Ok doc
  pub empty : doc.zones ≡ []
