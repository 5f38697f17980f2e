-- Which work a running one is, and what starting a work comes to.
use Rattle.std.specs.Prelude.{◌≡◌, ℕ, ◌≤◌, Result, Ok, Err}
use Rattle.td_base.specs.Views.{Rose, one_more}
use Rattle.td_base.specs.declared.spawner.Begin.{Begin}
use Rattle.td_base.specs.declared.spawner.Begin.TheVariants as begin
use Rattle.td_base.specs.declared.running.Running.{Running}
use Rattle.td_base.specs.declared.running.Running.TheVariants as running

-- the work that a thread does, or that is done when it is joined
abbrev pub work_of : {W D : Type 0} → Running W D → W
work_of (running.InThread handle) = handle.promise.work.value
work_of (running.AtJoin work) = work

module _ {W Running : Type 0} (work_of : Running → W) where
  -- what runs stands for the work, and else the work comes back
  abbrev pub BeginsWork : W → Result Running W → Type 0
  BeginsWork work (Ok running) = work_of running ≡ work
  BeginsWork work (Err back) = back ≡ work

  -- what runs stands for the work; a work that was not started comes back, and the count of faults
  -- rose
  abbrev pub StartGives : ℕ → ℕ → W → Result Running W → Type 0
  StartGives before now work (Ok running) = work_of running ≡ work
  StartGives before now work (Err back) = (back ≡ work) × Rose before now

-- one call to start a work: the count of faults never falls, and a work was not started only where
-- it rose
pub record Starts {W Running : Type 0} (work_of : Running → W) (before now : ℕ) (work : W)
    (result : Result Running W) : Type 0 where
  pub gives : StartGives work_of before now work result
  pub later : before ≤ now

-- the counts of faults and of active works, before and after a work is begun: one more is active
-- and nothing failed, or it was refused, which is one fault more
abbrev pub CountsBegin : Begin → ℕ → ℕ → ℕ → ℕ → Type 0
CountsBegin begin.InThread faults now before active =
    (now ≡ faults) × (active ≡ one_more before)
CountsBegin begin.AtJoin faults now before active = (now ≡ faults) × (active ≡ one_more before)
CountsBegin begin.Refused faults now before active =
    (now ≡ one_more faults) × (active ≡ before)

-- the same of one call to start a work
abbrev pub CountsStart : {R W : Type 0} → ℕ → ℕ → ℕ → ℕ → Result R W → Type 0
CountsStart faults now before active (Ok started) =
    (now ≡ faults) × (active ≡ one_more before)
CountsStart faults now before active (Err back) = (now ≡ one_more faults) × (active ≤ before)
