-- What starting works one after the other comes to.
use Rattle.std.specs.Prelude.{◌≡◌, ℕ, ◌+◌, ◌<◌, ◌≤◌, List, length, map, take, ⊤}
use Rattle.td_base.specs.Views.{Rose, one_more}
use Rattle.desk_pool.specs.declared.pool.Started.{Started}
use Rattle.desk_pool.specs.declared.pool.Started.TheVariants.{All, Refused}

module _ {W T : Type 0} (work_of : T → W) where
  -- all works run, or those before the one that was refused
  abbrev pub StartsWorks : List W → Started T → Type 0
  StartsWorks works (All running) = map work_of running.items ≡ works
  StartsWorks works (Refused running) =
      (length running.items < length works)
      × (map work_of running.items ≡ take (length running.items) works)

-- where one was refused, the count of faults rose
abbrev pub HasRefused : {T : Type 0} → ℕ → ℕ → Started T → Type 0
HasRefused before now (All running) = ⊤
HasRefused before now (Refused running) = Rose before now

-- the counts of faults and of active works, before and after: as many more are active as were
-- started, and one fault more was counted where one was refused
abbrev pub CountsStarts : {T : Type 0} → ℕ → ℕ → ℕ → ℕ → Started T → Type 0
CountsStarts faults now before active (All started) =
    (now ≡ faults) × (active ≤ before + length started.items)
CountsStarts faults now before active (Refused started) =
    (now ≡ one_more faults) × (active ≤ before + length started.items)
