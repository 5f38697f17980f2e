-- What running works beside one thing of the caller's thread promises.
use Rattle.std.specs.Prelude.{◌≡◌, ℕ, ◌<◌, List, [], ◌∷◌, length, take, true, false, Bool, ⊤}
use Rattle.td_base.specs.Views.{Rose, one_more}
use Rattle.desk_pool.specs.declared.pool_end.PoolEnd.{PoolEnd}
use Rattle.desk_pool.specs.declared.pool_end.PoolEnd.TheVariants.{All, NotStarted, NoMemory}

module _ {W D : Type 0} (does : W → D → Type 0) where
  -- as many results as works, and in order what each work promises of its result
  abbrev pub DoesEach : List W → List D → Type 0
  DoesEach [] [] = ⊤
  DoesEach [] (d ∷ ds) = ⊥
  DoesEach (w ∷ ws) [] = ⊥
  DoesEach (w ∷ ws) (d ∷ ds) = does w d × DoesEach ws ds

  -- the results are those of all works, or of those before the work that was refused
  abbrev pub GivesResults : List W → PoolEnd D → Type 0
  GivesResults works (All dones) = DoesEach works dones.items
  GivesResults works (NotStarted dones) =
      (length dones.items < length works) × DoesEach (take (length dones.items) works) dones.items
  GivesResults works NoMemory = ⊤

module _ {M : Type 0} (ran halted : M → M → Type 0) where
  -- what was beside the works ran once and was then stopped once; or was stopped alone, where a
  -- work was refused; or was left as it was
  abbrev pub LeavesBeside : {D : Type 0} → M → M → PoolEnd D → Type 0
  LeavesBeside before now (All dones) = (mid : M) × ran before mid × halted mid now
  LeavesBeside before now (NotStarted dones) = halted before now
  LeavesBeside before now NoMemory = now ≡ before

-- from the count of faults before and now: where a work was refused, it rose
abbrev pub HasRefusal : {D : Type 0} → ℕ → ℕ → PoolEnd D → Type 0
HasRefusal before now (All dones) = ⊤
HasRefusal before now (NotStarted dones) = Rose before now
HasRefusal before now NoMemory = ⊤

-- from the count of faults before and now: one more where a work was refused, and else as before
abbrev pub CountsRefusal : {D : Type 0} → ℕ → ℕ → PoolEnd D → Type 0
CountsRefusal before now (All dones) = now ≡ before
CountsRefusal before now (NotStarted dones) = now ≡ one_more before
CountsRefusal before now NoMemory = now ≡ before

-- whether it has stopped: it has, but for want of memory, where nothing was begun
abbrev pub IsStopped : {D : Type 0} → Bool → PoolEnd D → Type 0
IsStopped stopped (All dones) = stopped ≡ true
IsStopped stopped (NotStarted dones) = stopped ≡ true
IsStopped stopped NoMemory = stopped ≡ false

-- the spawner is as it was where there was no memory: nothing was started
abbrev pub LeavesSpawner : {S D : Type 0} → S → S → PoolEnd D → Type 0
LeavesSpawner before now (All dones) = ⊤
LeavesSpawner before now (NotStarted dones) = ⊤
LeavesSpawner before now NoMemory = now ≡ before
