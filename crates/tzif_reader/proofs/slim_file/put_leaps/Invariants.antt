use Rattle.std.proofs.Common.{◌≡◌, ◌++◌, drop}
use Rattle.std.specs.List.{flat_map}
use Rattle.tzif_reader.specs.Slim.{leap_bytes}
use Rattle.tzif_reader.proofs.slim_file.put_leaps.Given as goal

abbrev pub invariant-loop-row : goal.invariant-loop-row
invariant-loop-row l = l.file ++ flat_map leap_bytes (drop l.row-index l.leaps) ≡ l.fn.file ++ flat_map leap_bytes l.leaps
