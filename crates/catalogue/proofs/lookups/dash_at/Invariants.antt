use Rattle.std.proofs.Common.{◌≡◌, ◌+◌, drop, nat_eq}
use Rattle.std.specs.List.{position_or_len}
use Rattle.catalogue.proofs.lookups.dash_at.Given as goal

abbrev pub invariant-loop-at : goal.invariant-loop-at
invariant-loop-at l = position_or_len (nat_eq 45) l.text ≡ l.at + position_or_len (nat_eq 45) (drop l.at l.text)
