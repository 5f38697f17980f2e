use Rattle.std.proofs.Common.{◌≡◌, ◌++◌, drop}
use Rattle.std.specs.Option.{option_map}
use Rattle.vtimezone_reader.specs.TimeTexts.{moments_by}
use Rattle.vtimezone_reader.proofs.part_lines.moments_by.Given as goal

abbrev pub invariant-loop-text : goal.invariant-loop-text
invariant-loop-text l = option_map (λ ms. l.moments ++ ms) (moments_by l.offset (drop l.text-index l.texts)) ≡ moments_by l.offset l.texts
