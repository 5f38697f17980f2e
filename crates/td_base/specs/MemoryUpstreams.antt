-- What contracts see of another server in memory, and of one of which chosen exchanges fail.
use Rattle.std.specs.Prelude.{◌≡◌, ℕ, List, [], ◌∷◌, ⊤, Some}
use Rattle.td_base.specs.Memory.{FaultyState}
use Rattle.td_base.specs.Upstreams.{UpstreamView}
use Rattle.td_base.specs.declared.upstream.Exchange.{Exchange}
use Rattle.td_base.specs.declared.upstream.Exchanged.{Exchanged}
use Rattle.td_base.specs.declared.upstream.Exchanged.TheVariants as exchanged

-- the answers that are left of its script, and its exchanges so far
pub record MemoryUpstreamState : Type 0 where
  pub answers : List (List ℕ)
  pub told : List Exchange

abbrev pub memory_upstream : MemoryUpstreamState → UpstreamView
memory_upstream u = record { told = Some u.told; faults = 0 }

-- the first answer of a script, of no byte where it is over
abbrev pub next_answer : List (List ℕ) → List ℕ
next_answer [] = []
next_answer (answer ∷ answers) = answer

-- the exchange gave this answer, or there was no memory for it
abbrev pub IsScriptAnswer : List ℕ → Exchanged → Type 0
IsScriptAnswer answer (exchanged.Got bytes) = bytes ≡ answer
IsScriptAnswer answer exchanged.Failed = ⊥
IsScriptAnswer answer exchanged.NoMemory = ⊤

-- another server of which chosen exchanges fail: it tells what the one inside tells, and has its
-- own count of faults
module _ {S : Type 0} where
  abbrev pub faulty_upstream : (S → UpstreamView) → FaultyState S → UpstreamView
  faulty_upstream seen s = record { told = (seen s.inner).told; faults = s.calls.faults }
