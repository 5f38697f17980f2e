-- A primary, a mirror that follows it, and what lies between them, step by step.
use Rattle.std.specs.Prelude.{ℕ, ◌≤◌, List, [], ◌∷◌, ◌++◌, length, take, Option, None, Some, ◌≡◌}
use Rattle.td_base.specs.declared.report.Ask.{Ask}
use Rattle.td_base.specs.declared.report.Ask.TheVariants as ask
use Rattle.catalogue.specs.Histories.{IsRelease}
use Rattle.catalogue.specs.Releases.{ReleaseData}
use Rattle.sync_core.specs.Mirrors.{MirrorState, empty_mirror, ask_of}
use Rattle.sync_core.specs.Steps.{sync_step}
use Rattle.sync_core.specs.declared.heard_type.Heard.{Heard}
use Rattle.sync_core.specs.declared.heard_type.Heard.TheVariants as heard

-- an ask that is outstanding, and how long the history was when it was first sent
pub record Sent : Type 0 where
  pub ask : Ask
  pub since : ℕ

-- the history of the primary, the mirror, and what is outstanding
pub record SyncWorld : Type 0 where
  pub history : List ReleaseData
  pub mirror : MirrorState
  pub sent : Option Sent

-- a primary, and a mirror that has heard nothing
abbrev pub world_begun : List ReleaseData → SyncWorld
world_begun H = record { history = H; mirror = empty_mirror; sent = None }

pub data WorldStep : Type 0 where
  -- the primary installs a release
  install : ReleaseData → WorldStep
  -- the mirror asks, for the first time or again
  asks : WorldStep
  -- the primary's answer over its first so many releases reaches the mirror
  answer : ℕ → WorldStep
  -- the primary refuses the token
  refuse_token : WorldStep
  -- an ask or an answer is lost
  lose : WorldStep
  -- the mirror starts again, with what it held or with nothing
  restart : WorldStep
  restart_empty : WorldStep

-- an ask stays the one that was sent, with the time when it was
abbrev pub sent_then : Option Sent → MirrorState → ℕ → Sent
sent_then None mirror n = record { ask = ask_of mirror; since = n }
sent_then (Some sent) mirror n = sent

-- what the world is after the mirror took this
abbrev pub world_after : SyncWorld → Heard → SyncWorld
world_after w h = record { history = w.history; mirror = sync_step w.mirror h; sent = None }

-- the mirror takes what is heard of the primary over its first n releases, no fewer than it had
-- when the ask was first sent
pub record IsAnswer (hears : List ReleaseData → Ask → Heard → Type 0) (w : SyncWorld) (n : ℕ)
    (v : SyncWorld) (sent : Sent) (h : Heard) : Type 0 where
  pub outstanding : w.sent ≡ Some sent
  pub from : sent.since ≤ n
  pub upto : n ≤ length w.history
  pub is_heard : hears (take n w.history) sent.ask h
  pub is_taken : v ≡ world_after w h

-- the token of the outstanding ask is refused
pub record IsTokenRefused (w v : SyncWorld) (since : ℕ) (token : List ℕ) : Type 0 where
  pub outstanding : w.sent ≡ Some (record { ask = ask.List (Some token); since = since })
  pub is_taken : v ≡ world_after w heard.BadToken

module _ (sound : ReleaseData → Type 0) (hears : List ReleaseData → Ask → Heard → Type 0) where
  -- one step leads from a world to another
  abbrev pub LeadsTo : SyncWorld → WorldStep → SyncWorld → Type 0
  LeadsTo w (install r) v = IsRelease sound w.history r
      × (v ≡ record { history = w.history ++ r ∷ []; mirror = w.mirror; sent = w.sent })
  LeadsTo w asks v = v ≡ record {
    history = w.history;
    mirror = w.mirror;
    sent = Some (sent_then w.sent w.mirror (length w.history));
  }
  LeadsTo w (answer n) v = (sent : Sent) × (h : Heard) × IsAnswer hears w n v sent h
  LeadsTo w refuse_token v = (since : ℕ) × (token : List ℕ) × IsTokenRefused w v since token
  LeadsTo w lose v = v ≡ w
  LeadsTo w restart v = v ≡ record { history = w.history; mirror = w.mirror; sent = None }
  LeadsTo w restart_empty v =
      v ≡ record { history = w.history; mirror = empty_mirror; sent = None }

  -- the steps lead from a world to another
  abbrev pub Leads : SyncWorld → List WorldStep → SyncWorld → Type 0
  Leads w [] v = v ≡ w
  Leads w (x ∷ xs) v = (u : SyncWorld) × LeadsTo w x u × Leads u xs v
