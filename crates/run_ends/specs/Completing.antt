-- When a run does all that was asked, or memory runs out: no count of faults rose, and what its
-- command needs of the outside is there. What several commands need stands here, and what one needs
-- alone on its own page.
use Rattle.std.specs.Prelude.{◌≡◌, ◌⊎◌, ℕ, List, ◌++◌, Option, Some, IfSome}
use Rattle.std.specs.List.{AllByRecursion}
use Rattle.td_base.specs.DoorViews.{DoorView}
use Rattle.td_base.specs.Upstreams.{UpstreamView}
use Rattle.td_base.specs.Views.{File, Rose, StoreView}
use Rattle.td_base.specs.declared.report.Ask.{Ask}
use Rattle.td_base.specs.declared.upstream.Exchange.{Exchange}
use Rattle.admission.specs.declared.rules.Chosen.{Chosen}
use Rattle.catalogue.specs.Releases.{ReleaseData}
use Rattle.mirror_world.specs.Settling.{SettlesSecond}
use Rattle.run_ends.specs.Folders.{FoldersGive}
use Rattle.run_ends.specs.Outside.{World}
use Rattle.run_ends.specs.declared.status.Status.{Status}
use Rattle.run_ends.specs.declared.status.Status.TheVariants as status

-- no count of faults rose between two moments, nor any of the doors that were served and of the
-- server that was followed
pub record NoneRose (before after : World) (doors : List DoorView) (up : Option UpstreamView)
    : Type 0 where
  pub store : Rose before.outside.store.faults after.outside.store.faults → ⊥
  pub input : Rose before.outside.input.faults after.outside.input.faults → ⊥
  pub output : Rose before.outside.output.faults after.outside.output.faults → ⊥
  pub network : Rose before.network.faults after.network.faults → ⊥
  pub spawner : Rose before.spawner after.spawner → ⊥
  pub served : AllByRecursion (λ d. d.faults ≡ 0) doors
  pub followed : IfSome up (λ u. u.faults ≡ 0)

-- the exchanges that the server that was followed tells begin with these
pub record TellsFirst (up : Option UpstreamView) (xs : List Exchange) : Type 0 where
  pub upstream : UpstreamView
  pub is_it : up ≡ Some upstream
  pub more : List Exchange
  pub told : upstream.told ≡ Some (xs ++ more)

-- the folders of a store that tells its files give releases, each after those before it, and these
-- rules refuse none
pub record FoldersAreGiven (store : StoreView) (rules : List Chosen) (dirs : List (List ℕ))
    : Type 0 where
  pub files : List File
  pub told : store.files ≡ Some files
  pub releases : List ReleaseData
  pub give : FoldersGive (Some files) rules dirs releases

-- the first exchanges that are told of the server that was followed are those of a primary, of
-- which the second list is an empty one of changes
pub record PrimarySettles (over : List ReleaseData → Ask → Exchange → Type 0)
    (up : Option UpstreamView) : Type 0 where
  pub exchanges : List Exchange
  pub first : TellsFirst up exchanges
  pub settles : SettlesSecond over exchanges

-- all was done, or memory ran out
abbrev pub IsComplete : Status → Type 0
IsComplete is = (is ≡ status.Done) ⊎ (is ≡ status.NoMemory)
