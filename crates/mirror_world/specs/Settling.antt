-- Exchanges of which the second answer to a list shows no changes, and how a sync over them ends.
use Rattle.std.specs.Prelude.{◌≡◌, ℕ, ◌≤◌, List, [], ◌∷◌, length, None, Some, Result, Ok, Err, ⊤}
use Rattle.td_base.specs.declared.report.Ask.{Ask}
use Rattle.td_base.specs.declared.report.Ask.TheVariants as ask
use Rattle.td_base.specs.declared.upstream.Exchange.{Exchange}
use Rattle.catalogue.specs.Histories.{IsHistory}
use Rattle.catalogue.specs.Releases.{ReleaseData}
use Rattle.zone_meaning.specs.Sound.{IsSound}
use Rattle.sync_core.specs.Mirrors.{MirrorState, ask_of, empty_mirror}
use Rattle.sync_core.specs.Steps.{sync_step}
use Rattle.sync_core.specs.declared.heard_type.Heard.{Heard}
use Rattle.sync_core.specs.declared.heard_type.Heard.TheVariants as heard
use Rattle.mirror.specs.Understanding.{Means}
use Rattle.mirror.specs.declared.sync_fault.SyncFault.{SyncFault}
use Rattle.mirror.specs.declared.sync_fault.SyncFault.TheVariants as fault
use Rattle.mirror.specs.declared.understood_type.Understood.{Understood}
use Rattle.mirror.specs.declared.understood_type.Understood.TheVariants as understood
use Rattle.sync_world.specs.Worlds.{SyncWorld, WorldStep, world_begun}
use Rattle.mirror_world.specs.Logs.{Logs}

-- a list without a zone
abbrev pub IsEmptyList : Heard → Type 0
IsEmptyList (heard.List doc) = doc.zones ≡ []
IsEmptyList (heard.Zone bytes) = ⊥
IsEmptyList heard.BadToken = ⊥

-- the answer to a list since a token is empty, or the ask was for a zone and this is so of what
-- comes later
abbrev pub IsEmptyOrLater : Ask → Heard → Type 0 → Type 0
IsEmptyOrLater (ask.List None) h later = ⊥
IsEmptyOrLater (ask.List (Some token)) h later = IsEmptyList h
IsEmptyOrLater (ask.Get name) h later = later

-- by what answers mean
module _ (means : Ask → List ℕ → Understood → Type 0) where
  -- from a state on, the next answer to a list is an empty list of changes
  abbrev pub NextListIsEmpty : MirrorState → List Exchange → Type 0
  NextListIsEmpty s [] = ⊥
  NextListIsEmpty s (x ∷ xs) =
      (h : Heard) × means (ask_of s) x.answer (understood.Hears h)
      × IsEmptyOrLater (ask_of s) h (NextListIsEmpty (sync_step s h) xs)

  -- From a mirror that holds nothing, and so asks for a list first, the second answer to a list is
  -- an empty list of changes.
  pub record SecondListIsEmpty (xs : List Exchange) : Type 0 where
    pub first : Exchange
    pub later : List Exchange
    pub heard : Heard
    pub parts : xs ≡ first ∷ later
    pub is_meant : means (ask_of empty_mirror) first.answer (understood.Hears heard)
    pub second : NextListIsEmpty (sync_step empty_mirror heard) later

-- These exchanges are those of a primary, by which are, with a mirror that began with nothing, and
-- the second answer to a list among them is an empty list of changes.
pub record SettlesSecond (over : List ReleaseData → Ask → Exchange → Type 0)
    (xs : List Exchange) : Type 0 where
  pub history : List ReleaseData
  pub is_history : IsHistory IsSound history
  pub some : 1 ≤ length history
  pub steps : List WorldStep
  pub after : SyncWorld
  pub logs : Logs IsSound over Means (world_begun history) steps xs after
  pub empty : SecondListIsEmpty Means xs

-- a sync ended well, or for the network or for memory alone
abbrev pub IsSettled : Result (Unit {0}) SyncFault → Type 0
IsSettled (Ok done) = ⊤
IsSettled (Err fault.UpstreamFault) = ⊤
IsSettled (Err fault.NoMemory) = ⊤
IsSettled (Err (fault.BadAnswer exchange place answer)) = ⊥
IsSettled (Err (fault.Refused exchange status)) = ⊥
IsSettled (Err (fault.NotSettled lists)) = ⊥
