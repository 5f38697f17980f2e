-- The exchanges that the steps of a world bring to its mirror.
use Rattle.std.specs.Prelude.{◌≡◌, ℕ, List, [], ◌∷◌, ◌++◌, Some}
use Rattle.td_base.specs.declared.report.Ask.{Ask}
use Rattle.td_base.specs.declared.report.Ask.TheVariants as ask
use Rattle.td_base.specs.declared.upstream.Exchange.{Exchange}
use Rattle.catalogue.specs.Releases.{ReleaseData}
use Rattle.sync_core.specs.declared.heard_type.Heard.{Heard}
use Rattle.sync_core.specs.declared.heard_type.Heard.TheVariants as heard
use Rattle.mirror.specs.declared.understood_type.Understood.{Understood}
use Rattle.mirror.specs.declared.understood_type.Understood.TheVariants as understood
use Rattle.sync_world.specs.Worlds as world
use Rattle.sync_world.specs.Worlds.{IsTokenRefused, LeadsTo, Sent, SyncWorld, WorldStep}
use Rattle.sync_world.specs.Worlds.{world_after}
use Rattle.mirror_world.specs.Answers.{IsAnswered}

-- by which releases are sound, which exchanges are answers of a primary, and what answers mean
module _ (sound : ReleaseData → Type 0) (over : List ReleaseData → Ask → Exchange → Type 0)
    (means : Ask → List ℕ → Understood → Type 0) where
  -- this is heard in the answer of some exchange with a primary with the history
  abbrev pub IsHeardInOne : List ReleaseData → Ask → Heard → Type 0
  IsHeardInOne G a h = (x : Exchange) × over G a x × means a x.answer (understood.Hears h)

  -- the answer of the exchange, over the first n releases, is taken by the mirror
  pub record Reaches (w : SyncWorld) (n : ℕ) (x : Exchange) (v : SyncWorld) : Type 0 where
    pub sent : Sent
    pub heard : Heard
    pub answered : IsAnswered over w n sent x
    pub is_meant : means sent.ask x.answer (understood.Hears heard)
    pub is_taken : v ≡ world_after w heard

  -- the answer of the exchange refuses the token of the outstanding ask
  pub record RefusesToken (w : SyncWorld) (x : Exchange) (v : SyncWorld) : Type 0 where
    pub since : ℕ
    pub token : List ℕ
    pub is_refused : IsTokenRefused w v since token
    pub is_meant : means (ask.List (Some token)) x.answer (understood.Hears heard.BadToken)

  -- a step leads from a world to another, and these exchanges, one at the most, are those whose
  -- answers the mirror takes by it; it never starts again with nothing
  abbrev pub Brings : SyncWorld → WorldStep → List Exchange → SyncWorld → Type 0
  Brings w (world.answer n) xs v = (x : Exchange) × (xs ≡ x ∷ []) × Reaches w n x v
  Brings w world.refuse_token xs v = (x : Exchange) × (xs ≡ x ∷ []) × RefusesToken w x v
  Brings w world.restart_empty xs v = ⊥
  Brings w (world.install r) xs v = (xs ≡ []) × LeadsTo sound IsHeardInOne w (world.install r) v
  Brings w world.asks xs v = (xs ≡ []) × LeadsTo sound IsHeardInOne w world.asks v
  Brings w world.lose xs v = (xs ≡ []) × LeadsTo sound IsHeardInOne w world.lose v
  Brings w world.restart xs v = (xs ≡ []) × LeadsTo sound IsHeardInOne w world.restart v

  -- the steps lead from a world to another, and these exchanges are those whose answers the mirror
  -- takes by them, in order
  abbrev pub Logs : SyncWorld → List WorldStep → List Exchange → SyncWorld → Type 0
  Logs w [] xs v = (xs ≡ []) × (v ≡ w)
  Logs w (step ∷ steps) xs v =
      (u : SyncWorld) × (now later : List Exchange) × (xs ≡ now ++ later)
      × Brings w step now u × Logs u steps later v
