use Rattle.std.proofs.Common.{◌≡◌, map, drop, true}
use Rattle.std.specs.List.{list_any}
use Rattle.subscribers.specs.Wishes.{same_wish_kind}
use Rattle.subscribers.proofs.noticing.is_taken.Given as goal

-- the kind is one of those that are left
abbrev pub invariant-loop-want : goal.invariant-loop-want
invariant-loop-want g l = list_any (same_wish_kind l.wish.kind) (map (λ w. w.kind) (drop l.want-index l.wants)) ≡ true
