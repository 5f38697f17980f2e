use Rattle.std.proofs.Common.{◌≡◌, ℕ, List, ◌||◌, drop}
use Rattle.std.specs.List.{list_any}
use Rattle.std.specs.Str.{bytes_eq}
use Rattle.sync_core.specs.Keeping.{has_listed_name}
use Rattle.sync_core.proofs.aliases.put_aliases.Given as goal

abbrev pub invariant-loop-alias : goal.invariant-loop-alias
invariant-loop-alias l = (name : List ℕ)
    → (list_any (bytes_eq name) (drop l.alias-index l.aliases) || has_listed_name l.names.keys name) ≡
    (list_any (bytes_eq name) l.aliases || has_listed_name l.fn.names.keys name)
