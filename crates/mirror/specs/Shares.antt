-- The exchanges of one sync, and how it ends.
use Rattle.std.specs.Prelude.{◌≡◌, ◌⊎◌, ℕ, ◌+◌, ◌<◌, ◌≤◌, List, [], ◌∷◌, ◌++◌, length, Result, Ok}
use Rattle.std.specs.Prelude.{Err}
use Rattle.td_base.specs.Upstreams.{TellsMore, UpstreamView}
use Rattle.td_base.specs.Views.{Rose, one_more}
use Rattle.td_base.specs.declared.report.Ask.{Ask}
use Rattle.td_base.specs.declared.report.Ask.TheVariants as ask
use Rattle.td_base.specs.declared.upstream.Exchange.{Exchange}
use Rattle.sync_core.specs.Mirrors.{MirrorState, ask_of}
use Rattle.sync_core.specs.Steps.{settles, sync_step}
use Rattle.sync_core.specs.declared.heard_type.Heard.{Heard}
use Rattle.sync_core.specs.declared.heard_type.Settled.TheVariants.{Holds, More}
use Rattle.mirror.specs.declared.limits.TheConstants.{MOST_ANSWER, MOST_LISTS}
use Rattle.mirror.specs.declared.sync_fault.SyncFault.{SyncFault}
use Rattle.mirror.specs.declared.sync_fault.SyncFault.TheVariants as fault
use Rattle.mirror.specs.declared.understood_type.Understood.{Understood}
use Rattle.mirror.specs.declared.understood_type.Understood.TheVariants as understood

-- how many of an ask's answers are answers to a list
abbrev pub lists_in : Ask → ℕ
lists_in (ask.List token) = 1
lists_in (ask.Get name) = 0

-- the number of the exchange after these, counted from 1 up to the last value of 64 bits
abbrev pub number_after : List Exchange → ℕ
number_after taken = one_more (length taken)

-- by how asks are written, and what answers mean
module _ (written : Ask → List ℕ) (means : Ask → List ℕ → Understood → Type 0) where
  -- the exchange is for what the state asks, and its answer means this
  pub record IsFor (s : MirrorState) (x : Exchange) (u : Understood) : Type 0 where
    pub request : x.request ≡ written (ask_of s)
    pub most : x.most ≡ MOST_ANSWER
    pub is_meant : means (ask_of s) x.answer u

  -- from a state to a state by exchanges, of which each answer is taken and none settles the
  -- mirror; so many answers to lists came before them and come by their end, and before each
  -- exchange there were fewer than a sync may have
  abbrev pub WalksOn : MirrorState → List Exchange → ℕ → ℕ → MirrorState → Type 0
  WalksOn s [] before lists t = (t ≡ s) × (lists ≡ before)
  WalksOn s (x ∷ xs) before lists t =
      (h : Heard) × IsFor s x (understood.Hears h) × (settles s h ≡ More) × (before < MOST_LISTS)
      × WalksOn (sync_step s h) xs (before + lists_in (ask_of s)) lists t

  -- one more exchange, whose answer means this, after those that were taken
  pub record AsksOn (s t : MirrorState) (taken : List Exchange) (x : Exchange) (u : Understood)
      : Type 0 where
    pub lists : ℕ
    pub walks : WalksOn s taken 0 lists t
    pub few : lists < MOST_LISTS
    pub is_for : IsFor t x u

  -- an exchange that was asked for in a state, if there is one at all
  abbrev pub AtMostAsked : MirrorState → List Exchange → Type 0
  AtMostAsked t xs = (xs ≡ [])
      ⊎ ((x : Exchange) × (xs ≡ x ∷ []) × (x.request ≡ written (ask_of t)) × (x.most ≡ MOST_ANSWER))

  -- how a sync ends: from a state to a state, by the exchanges whose answers were taken, and by
  -- those whose answers were not
  pub data SyncEnds (s t : MirrorState) (taken untaken : List Exchange)
      (result : Result (Unit {0}) SyncFault) : Type 0 where
    -- the last answer, and none before it, is an empty list of changes
    settled : (first : List Exchange) (last : Exchange) (u : MirrorState) (h : Heard)
        → AsksOn s u first last (understood.Hears h) → settles u h ≡ Holds
        → t ≡ sync_step u h → taken ≡ first ++ last ∷ [] → untaken ≡ []
        → result ≡ Ok tt → SyncEnds s t taken untaken result
    -- the last answer is not of the written form
    unreadable : (x : Exchange) (place : ℕ) → AsksOn s t taken x (understood.Unreadable place)
        → untaken ≡ x ∷ []
        → result ≡ Err (fault.BadAnswer (number_after taken) place x.answer)
        → SyncEnds s t taken untaken result
    -- the last answer is a refusal, but not of a token that was asked with
    refused : (x : Exchange) (status : ℕ) → AsksOn s t taken x (understood.Refuses status)
        → untaken ≡ x ∷ [] → result ≡ Err (fault.Refused (number_after taken) status)
        → SyncEnds s t taken untaken result
    -- as many answers to lists as may be, and none of them settled the mirror
    not_settled : WalksOn s taken 0 MOST_LISTS t → untaken ≡ []
        → result ≡ Err (fault.NotSettled MOST_LISTS) → SyncEnds s t taken untaken result
    -- the upstream failed
    failed : (lists : ℕ) → WalksOn s taken 0 lists t → lists < MOST_LISTS → untaken ≡ []
        → result ≡ Err fault.UpstreamFault → SyncEnds s t taken untaken result
    -- there was no memory, be it to ask or to take an answer
    starved : (lists : ℕ) → WalksOn s taken 0 lists t → lists < MOST_LISTS
        → AtMostAsked t untaken → result ≡ Err fault.NoMemory → SyncEnds s t taken untaken result

  -- what a sync does to a mirror and to an upstream
  pub record Syncs (s t : MirrorState) (old new : UpstreamView)
      (result : Result (Unit {0}) SyncFault) : Type 0 where
    pub taken : List Exchange
    pub untaken : List Exchange
    pub ends : SyncEnds s t taken untaken result
    pub told : TellsMore old.told new.told (taken ++ untaken)
    pub later : old.faults ≤ new.faults
    pub failed : result ≡ Err fault.UpstreamFault → Rose old.faults new.faults
    pub steady : (result ≡ Err fault.UpstreamFault → ⊥) → new.faults ≡ old.faults
