use Rattle.std.proofs.Common.{◌≡◌, ℕ, List, ◌||◌, drop}
use Rattle.sync_core.specs.Keeping.{has_listed_name}
use Rattle.sync_core.specs.Steps.{is_alias}
use Rattle.sync_core.proofs.aliases.aliases_in.Given as goal

abbrev pub invariant-loop-zone : goal.invariant-loop-zone
invariant-loop-zone l = (name : List ℕ)
    → (is_alias (drop l.zone-index l.zones) name || has_listed_name l.names.keys name) ≡ is_alias l.zones name
