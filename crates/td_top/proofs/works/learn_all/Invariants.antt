use Rattle.std.proofs.Common.{◌≡◌, ◌++◌, map, All}
use Rattle.std.specs.List.{list_any}
use mathlib.Core.List.{IsPrefix}
use Rattle.td_top.proofs.works.learn_all.Given as goal

abbrev pub invariant-loop-done : goal.invariant-loop-done
invariant-loop-done g l = record {
  whole : l.yielded ++ l.done-iterator.rest.items ≡ l.fn.dones.items;
  pairs : All (λ d. d.desk.pair ≡ l.fn.ended.pair) l.done-iterator.rest.items;
  kept : l.ended ≡ l.fn.ended;
  doors : l.doors.items ≡ map (λ d. d.door) l.yielded;
  worn : l.worn ≡ list_any (λ d. d.worn) l.yielded;
  seen : All (λ d. IsPrefix d.desk.seen l.fn.ended.list) l.yielded;
}
