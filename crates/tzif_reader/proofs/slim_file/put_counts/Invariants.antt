use Rattle.std.proofs.Common.{◌≡◌, ◌++◌, drop}
use Rattle.std.specs.List.{flat_map}
use Rattle.tzif_reader.specs.Slim.{unsigned_bytes}
use Rattle.tzif_reader.proofs.slim_file.put_counts.Given as goal

abbrev pub invariant-loop-count : goal.invariant-loop-count
invariant-loop-count l = l.file ++ flat_map unsigned_bytes (drop l.count-index l.counts) ≡ l.fn.file ++ flat_map unsigned_bytes l.counts
