use Rattle.std.proofs.Common.{◌≡◌, ◌++◌, drop}
use Rattle.std.specs.List.{flat_map}
use Rattle.tzif_reader.specs.Slim.{type_bytes}
use Rattle.tzif_reader.proofs.slim_file.put_types.Given as goal

abbrev pub invariant-loop-row : goal.invariant-loop-row
invariant-loop-row l = l.file ++ flat_map type_bytes (drop l.row-index l.types) ≡ l.fn.file ++ flat_map type_bytes l.types
