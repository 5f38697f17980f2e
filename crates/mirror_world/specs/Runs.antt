-- The syncs of a mirror, one after another.
use Rattle.std.specs.Prelude.{◌≡◌, ℕ, ◌≤◌, List, [], ◌∷◌, ◌++◌, length, take, Result, Ok, Err, ⊤}
use Rattle.td_base.specs.declared.report.Ask.{Ask}
use Rattle.td_base.specs.declared.upstream.Exchange.{Exchange}
use Rattle.catalogue.specs.Releases.{ReleaseData}
use Rattle.sync_core.specs.Mirrors.{MirrorState}
use Rattle.mirror.specs.Shares.{SyncEnds}
use Rattle.mirror.specs.declared.sync_fault.SyncFault.{SyncFault}
use Rattle.mirror.specs.declared.sync_fault.SyncFault.TheVariants as fault
use Rattle.mirror.specs.declared.understood_type.Understood.{Understood}
use Rattle.sync_world.specs.Holding.{HoldsLast}
use Rattle.sync_world.specs.Primaries.{Service}

-- a sync: the exchanges whose answers were taken, those whose answers were not, what the call
-- answered, and the state of the mirror after it
pub record Share : Type 0 where
  pub taken : List Exchange
  pub untaken : List Exchange
  pub result : Result (Unit {0}) SyncFault
  pub after : MirrorState

-- the exchanges whose answers were taken, of all syncs
abbrev pub all_taken : List Share → List Exchange
all_taken [] = []
all_taken (share ∷ shares) = share.taken ++ all_taken shares

-- from a state to a state by these syncs, by how asks are written, and what answers mean
abbrev pub SyncsInTurn : (Ask → List ℕ) → (Ask → List ℕ → Understood → Type 0) → MirrorState
    → List Share → MirrorState → Type 0
SyncsInTurn written means s [] t = t ≡ s
SyncsInTurn written means s (share ∷ shares) t =
    SyncEnds written means s share.after share.taken share.untaken share.result
    × SyncsInTurn written means share.after shares t

-- by which exchanges are answers of a primary, and what it serves
module _ (over : List ReleaseData → Ask → Exchange → Type 0) (P : Service) where
  -- the last of the exchanges was answered over a history
  pub record LastIsOver (G : List ReleaseData) (taken : List Exchange) : Type 0 where
    pub first : List Exchange
    pub last : Exchange
    pub asked : Ask
    pub parts : taken ≡ first ++ last ∷ []
    pub is_over : over G asked last

  -- at a place of the history, not before `least`: where a sync ended well, its last exchange was
  -- answered over the first n releases, and the mirror holds exactly the last of them
  pub record HoldsAt (G : List ReleaseData) (least n : ℕ) (taken : List Exchange) (t : MirrorState)
      (result : Result (Unit {0}) SyncFault) : Type 0 where
    pub from : least ≤ n
    pub upto : n ≤ length G
    pub answered : result ≡ Ok tt → LastIsOver (take n G) taken
    pub holds : result ≡ Ok tt → HoldsLast P t (take n G)

  -- so after each of these syncs, at places that never fall
  abbrev pub HoldInTurn : List ReleaseData → ℕ → List Share → Type 0
  HoldInTurn G least [] = ⊤
  HoldInTurn G least (share ∷ shares) =
      (n : ℕ) × HoldsAt G least n share.taken share.after share.result × HoldInTurn G n shares

-- a sync did not end with a fault of an answer
abbrev pub IsUnderstood : Result (Unit {0}) SyncFault → Type 0
IsUnderstood (Err (fault.BadAnswer exchange place answer)) = ⊥
IsUnderstood (Err (fault.Refused exchange status)) = ⊥
IsUnderstood result = ⊤
