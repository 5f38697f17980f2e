-- What the answers of a primary make of a mirror.
use Rattle.std.specs.Prelude.{◌≡◌, ℕ, ◌≤◌, List, [], ◌∷◌, length, take}
use Rattle.td_base.specs.declared.report.Ask.{Ask}
use Rattle.td_base.specs.declared.upstream.Exchange.{Exchange}
use Rattle.catalogue.specs.Releases.{ReleaseData}
use Rattle.sync_core.specs.Mirrors.{MirrorState, ask_of}
use Rattle.sync_core.specs.Steps.{sync_step}
use Rattle.sync_core.specs.declared.heard_type.Heard.{Heard}
use Rattle.mirror.specs.declared.understood_type.Understood.{Understood}
use Rattle.mirror.specs.declared.understood_type.Understood.TheVariants as understood
use Rattle.sync_world.specs.Holding.{HoldsLast, SaysHolds}
use Rattle.sync_world.specs.Primaries.{Service}

-- by which exchanges are answers of a primary, what answers mean, and what a primary serves
module _ (over : List ReleaseData → Ask → Exchange → Type 0)
    (means : Ask → List ℕ → Understood → Type 0) (P : Service) where
  -- this is heard in the answer to what a state asks. Where it lets the mirror say that it holds
  -- what the primary has, it was answered over the first n releases of the history, and the mirror
  -- holds exactly the last of them.
  pub record HearsAt (G : List ReleaseData) (n : ℕ) (s : MirrorState) (x : Exchange) (h : Heard)
      : Type 0 where
    pub is_meant : means (ask_of s) x.answer (understood.Hears h)
    pub is_over : SaysHolds s h → over (take n G) (ask_of s) x
    pub holds : SaysHolds s h → HoldsLast P (sync_step s h) (take n G)

  -- from a state to a state by the answers of these exchanges, each at a place of the history, of
  -- which none is before `least` and none before that of an earlier exchange
  abbrev pub FollowsFrom : List ReleaseData → ℕ → MirrorState → List Exchange → MirrorState
      → Type 0
  FollowsFrom G least s [] t = t ≡ s
  FollowsFrom G least s (x ∷ xs) t =
      (n : ℕ) × (h : Heard) × (least ≤ n) × (n ≤ length G) × HearsAt G n s x h
      × FollowsFrom G n (sync_step s h) xs t
