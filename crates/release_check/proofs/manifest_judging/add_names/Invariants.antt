use Rattle.std.proofs.Common.{◌≡◌, ◌++◌, ◌∷◌, map, drop}
use Rattle.release_check.proofs.manifest_judging.add_names.Given as goal

abbrev pub invariant-loop-alias : goal.invariant-loop-alias
invariant-loop-alias l =
    map (λ n. n.now) l.names.items ++ drop l.alias-index l.alias-items
    ≡ map (λ n. n.now) l.fn.names.items ++ l.zone.tzid ∷ l.zone.aliases
