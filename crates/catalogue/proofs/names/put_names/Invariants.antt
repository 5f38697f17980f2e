use Rattle.std.proofs.Common.{◌≡◌, ◌++◌, ◌∷◌, drop}
use Rattle.catalogue.specs.HeldZones.{names_at}
use Rattle.catalogue.proofs.names.put_names.Given as goal

abbrev pub invariant-loop-alias : goal.invariant-loop-alias
invariant-loop-alias g l = l.names ++ names_at l.zone (drop l.alias-index l.content.aliases)
    ≡ l.fn.names ++ names_at l.zone (l.content.tzid ∷ l.content.aliases)
