-- One exchange of a sync: words of its inner functions.
use Rattle.std.specs.Prelude.{◌≡◌, ◌⊎◌, ℕ, ◌-◌, ◌^◌, ◌≤◌, List, [], ◌∷◌, length, min, Result, Ok}
use Rattle.std.specs.Prelude.{Err}
use Rattle.td_base.specs.Upstreams.{TellsMore, UpstreamView}
use Rattle.td_base.specs.Views.{Rose}
use Rattle.td_base.specs.declared.report.Ask.{Ask}
use Rattle.td_base.specs.declared.report.Ask.TheVariants as ask
use Rattle.td_base.specs.declared.upstream.Exchange.{Exchange}
use Rattle.sync_core.specs.Mirrors.{MirrorState, ask_of}
use Rattle.sync_core.specs.Steps.{settles, sync_step}
use Rattle.sync_core.specs.declared.heard_type.Heard.{Heard}
use Rattle.sync_core.specs.declared.heard_type.Settled.{Settled}
use Rattle.sync_core.specs.declared.heard_type.Settled.TheVariants.{Holds, More}
use Rattle.mirror.specs.Shares.{WalksOn}
use Rattle.mirror.specs.declared.limits.TheConstants.{MOST_ANSWER, MOST_LISTS}
use Rattle.mirror.specs.declared.sync_fault.SyncFault.{SyncFault}
use Rattle.mirror.specs.declared.sync_fault.SyncFault.TheVariants as fault
use Rattle.mirror.specs.declared.taken_type.Taken.{Taken}
use Rattle.mirror.specs.declared.taken_type.Taken.TheVariants as took
use Rattle.mirror.specs.declared.understood_type.Understood.{Understood}
use Rattle.mirror.specs.declared.understood_type.Understood.TheVariants as understood

-- what was taken: an answer that settles the mirror, another list, or a file
abbrev pub taken_by : Ask → Settled → Taken
taken_by a Holds = took.Settled
taken_by (ask.List token) More = took.List
taken_by (ask.Get name) More = took.File

-- by what answers mean
module _ (means : Ask → List ℕ → Understood → Type 0) where
  -- what becomes of the answer, which is of this number, to what was asked, in a state
  abbrev pub Takes : Ask → MirrorState → MirrorState → List ℕ → ℕ → Result Taken SyncFault → Type 0
  Takes a s t answer number (Ok taken) =
      (h : Heard) × means a answer (understood.Hears h) × (t ≡ sync_step s h)
      × (taken ≡ taken_by a (settles s h))
  Takes a s t answer number (Err fault.NoMemory) = t ≡ s
  Takes a s t answer number (Err fault.UpstreamFault) = ⊥
  Takes a s t answer number (Err (fault.BadAnswer exchange place kept)) =
      means a answer (understood.Unreadable place)
      × (exchange ≡ number) × (kept ≡ answer) × (t ≡ s)
  Takes a s t answer number (Err (fault.Refused exchange status)) =
      means a answer (understood.Refuses status) × (exchange ≡ number) × (t ≡ s)
  Takes a s t answer number (Err (fault.NotSettled lists)) = ⊥

-- no exchange was told
abbrev pub TakesNone : MirrorState → MirrorState → Result Taken SyncFault → Type 0
TakesNone s t result =
    (t ≡ s) × ((result ≡ Err fault.UpstreamFault) ⊎ (result ≡ Err fault.NoMemory))

-- by how asks are written, and what answers mean
module _ (written : Ask → List ℕ) (means : Ask → List ℕ → Understood → Type 0) where
  -- the exchange of this number, if there was one, and what became of it
  pub data Turn (s t : MirrorState) (xs : List Exchange) (number : ℕ)
      (result : Result Taken SyncFault) : Type 0 where
    asked_none : xs ≡ [] → TakesNone s t result → Turn s t xs number result
    asked_one : (x : Exchange) → xs ≡ x ∷ [] → x.request ≡ written (ask_of s)
        → x.most ≡ MOST_ANSWER → Takes means (ask_of s) s t x.answer number result
        → Turn s t xs number result

  -- the same over an upstream
  pub record TurnsOn (s t : MirrorState) (old new : UpstreamView) (number : ℕ)
      (result : Result Taken SyncFault) : Type 0 where
    pub exchanges : List Exchange
    pub turn : Turn s t exchanges number result
    pub told : TellsMore old.told new.told exchanges
    pub later : old.faults ≤ new.faults
    pub failed : result ≡ Err fault.UpstreamFault → Rose old.faults new.faults
    pub steady : (result ≡ Err fault.UpstreamFault → ⊥) → new.faults ≡ old.faults

  -- what a sync has come to, after so many exchanges, so many of them with answers to lists
  pub record HasWalked (s t : MirrorState) (old now : UpstreamView) (lists asked : ℕ)
      : Type 0 where
    pub taken : List Exchange
    pub walks : WalksOn written means s taken 0 lists t
    pub count : asked ≡ min (length taken) (2 ^ 64 - 1)
    pub told : TellsMore old.told now.told taken
    pub steady : now.faults ≡ old.faults
    pub few_lists : lists ≤ MOST_LISTS
