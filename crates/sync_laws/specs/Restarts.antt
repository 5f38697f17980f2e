-- A sync in which the mirror comes to ask for a list without a token, as it does once a token is
-- refused by a primary that began again with another history.
use Rattle.std.specs.Prelude.{◌≡◌, ℕ, List, ◌++◌, None}
use Rattle.td_base.specs.declared.report.Ask.TheVariants as ask
use Rattle.td_base.specs.declared.upstream.Exchange.{Exchange}
use Rattle.http_client.specs.Requests.{request_text}
use Rattle.mirror.specs.Shares.{WalksOn}
use Rattle.mirror.specs.Understanding.{Means}
use Rattle.mirror_world.specs.Runs.{Share}
use Rattle.sync_core.specs.Mirrors.{MirrorState, ask_of}

-- the exchanges of a sync from a state: the first lead to a state that asks for a list without a
-- token, and the others follow
pub record BeginsAgain (host : List ℕ) (s : MirrorState) (share : Share) (first rest : List Exchange)
    : Type 0 where
  pub parts : share.taken ≡ first ++ rest
  pub lists : ℕ
  pub state : MirrorState
  pub walks : WalksOn (request_text host) Means s first 0 lists state
  pub asks : ask_of state ≡ ask.List None
