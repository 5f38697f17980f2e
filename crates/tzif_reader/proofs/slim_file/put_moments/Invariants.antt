use Rattle.std.proofs.Common.{◌≡◌, ◌++◌, drop}
use Rattle.std.specs.List.{flat_map}
use Rattle.tzif_reader.specs.Slim.{long_bytes}
use Rattle.tzif_reader.proofs.slim_file.put_moments.Given as goal

abbrev pub invariant-loop-seconds : goal.invariant-loop-seconds
invariant-loop-seconds l = l.file ++ flat_map long_bytes (drop l.seconds-index l.times) ≡ l.fn.file ++ flat_map long_bytes l.times
