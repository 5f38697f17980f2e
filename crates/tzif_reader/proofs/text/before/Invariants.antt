use Rattle.std.proofs.Common.{◌≡◌, ◌++◌, take, drop}
use Rattle.std.specs.Option.{option_map}
use Rattle.tzif_reader.specs.Cut.{before}
use Rattle.tzif_reader.proofs.text.before.Given as goal

abbrev pub invariant-loop-i : goal.invariant-loop-i
invariant-loop-i l = option_map (λ rest. take l.i l.text ++ rest) (before l.mark (drop l.i l.text)) ≡ before l.mark l.text
