use Rattle.std.proofs.Common.{◌≡◌, ◌+◌, ◌≤◌, ◌++◌, map, length}
use Rattle.std.specs.Vec.{vec_capacity}
use Rattle.td_base.specs.Works.{work_of}
use Rattle.desk_pool.proofs.pool.start_each.Given as goal

abbrev pub invariant-loop-work : goal.invariant-loop-work
invariant-loop-work g l = record {
  whole : map work_of l.running.items ++ l.work-iterator.rest.items ≡ l.fn.works.items;
  room : length l.running.items + length l.work-iterator.rest.items ≤ vec_capacity l.running;
  steady : g.S.Spawner.faults l.spawner ≡ g.S.Spawner.faults l.fn.spawner;
  started : g.S.Spawner.active l.spawner ≤ g.S.Spawner.active l.fn.spawner + length l.running.items;
  later : g.S.Spawner.faults l.fn.spawner ≤ g.S.Spawner.faults l.spawner;
}
