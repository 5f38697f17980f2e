use Rattle.std.proofs.Common.{◌≡◌, ◌≤◌, ◌-◌, ℕ, List, map}
use Rattle.std.specs.List.{range_with_len}
use Rattle.td_base.specs.Views.{file_at}
use Rattle.made_load.specs.Releases.{made_file}
use Rattle.made_load.proofs.zones.made_store.Given as goal

abbrev pub invariant-zones : goal.invariant-zones
invariant-zones l = record {
  within : l.zone ≤ 50;
  files : (path : List ℕ) → file_at l.store path ≡ file_at (map (made_file l.fn.release) (range_with_len l.zone (50 - l.zone))) path;
}

abbrev pub decreases-zones : goal.decreases-zones
decreases-zones l = l.zone
