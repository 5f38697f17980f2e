-- That asks and answers lead a mirror to where it says that it holds what the primary has.
use Rattle.std.specs.Prelude.{◌≤◌, List, length, Some, ⊤, ◌≡◌}
use Rattle.std.specs.List.{AllByRecursion}
use Rattle.td_base.specs.declared.report.Ask.{Ask}
use Rattle.catalogue.specs.Histories.{IsHistory}
use Rattle.catalogue.specs.Releases.{ReleaseData}
use Rattle.sync_core.specs.declared.heard_type.Heard.{Heard}
use Rattle.sync_world.specs.Holding.{SaysHolds}
use Rattle.sync_world.specs.Primaries.{Service, told_by}
use Rattle.sync_world.specs.Worlds as world
use Rattle.sync_world.specs.Worlds.{IsAnswer, Leads, Sent, SyncWorld, WorldStep}

-- what there is to be told over a history of sound releases is heard
abbrev pub ToldIsHeard : (ReleaseData → Type 0) → (List ReleaseData → Ask → Heard → Type 0)
    → Service → Type 0
ToldIsHeard sound hears P = (H : List ReleaseData) (a : Ask) (h : Heard) → IsHistory sound H
    → 1 ≤ length H → told_by P H a ≡ Some h → hears H a h

-- an ask, or an answer
abbrev pub IsExchange : WorldStep → Type 0
IsExchange (world.install r) = ⊥
IsExchange world.asks = ⊤
IsExchange (world.answer n) = ⊤
IsExchange world.refuse_token = ⊥
IsExchange world.lose = ⊥
IsExchange world.restart = ⊥
IsExchange world.restart_empty = ⊥

-- asks and answers lead on to a world in which the next answer, over the whole history, lets the
-- mirror say that it holds what the primary has
pub record ComesToHold (sound : ReleaseData → Type 0)
    (hears : List ReleaseData → Ask → Heard → Type 0) (w : SyncWorld) : Type 0 where
  pub steps : List WorldStep
  pub exchanges : AllByRecursion IsExchange steps
  pub before : SyncWorld
  pub leads : Leads sound hears w steps before
  pub after : SyncWorld
  pub sent : Sent
  pub heard : Heard
  pub answer : IsAnswer hears before (length w.history) after sent heard
  pub holds : SaysHolds before.mirror heard
