use Rattle.std.proofs.Common.{◌≡◌, ℕ, ◌++◌, length, map, All, false}
use Rattle.connection.specs.DoorWorks.{NoneOut}
use Rattle.logbook.specs.Pages.{Book}
use Rattle.td_top.specs.Works.{AreWorks}
use Rattle.run_ends.specs.Opening.{HasSeen}
use Rattle.td_top.proofs.works.works_for.Given as goal

abbrev pub invariant-loop-door : goal.invariant-loop-door
invariant-loop-door g l = record {
  whole : l.yielded ++ l.door-iterator.rest.items ≡ l.fn.doors.items;
  many : length l.door-iterator.rest.items ≡ length l.left.items;
  new : All (λ d. NoneOut (g.D.Door.seen d)) l.door-iterator.rest.items;
  desks : (pair : Book) (least : ℕ) → All (HasSeen pair least) l.fn.desks.items → All (HasSeen pair least) l.left.items;
  works : (pair : Book) (least : ℕ) → All (HasSeen pair least) l.fn.desks.items
      → AreWorks l.fn.role pair least (map g.D.Door.seen l.yielded) l.works.items;
  down : l.flag.raised ≡ false;
  signs : All (λ w. w.stop ≡ l.flag) l.works.items;
}
