use Rattle.std.proofs.Common.{◌≡◌, ◌+◌, ◌-◌, ◌≤◌, ◌++◌, map, length}
use Rattle.std.specs.Vec.{vec_capacity}
use Rattle.desk_pool.specs.Pool.{DoesEach}
use Rattle.td_base.specs.Works.{work_of}
use Rattle.desk_pool.proofs.pool.join_each.Given as goal

abbrev pub invariant-loop-running : goal.invariant-loop-running
invariant-loop-running g l = record {
  whole : l.yielded ++ l.running-iterator.rest.items ≡ l.fn.running.items;
  dones : DoesEach g.W.Work.does (map work_of l.yielded) l.dones.items;
  room : length l.dones.items + length l.running-iterator.rest.items ≤ vec_capacity l.dones;
  steady : g.S.Spawner.faults l.spawner ≡ g.S.Spawner.faults l.fn.spawner;
  joined : g.S.Spawner.active l.spawner ≡ g.S.Spawner.active l.fn.spawner - length l.yielded;
  later : g.S.Spawner.faults l.fn.spawner ≤ g.S.Spawner.faults l.spawner;
}
