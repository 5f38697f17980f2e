use Rattle.std.proofs.Common.{◌≡◌, map, drop}
use Rattle.std.specs.List.{list_all}
use Rattle.zone_meaning.specs.Names.{is_printable_name}
use Rattle.zone_meaning.proofs.zone_names.are_printable.Given as goal

abbrev pub invariant-loop-kind : goal.invariant-loop-kind
invariant-loop-kind l =
    list_all is_printable_name (map (λ kind. kind.name) (drop l.kind-index l.kinds))
    ≡ list_all is_printable_name (map (λ kind. kind.name) l.kinds)
