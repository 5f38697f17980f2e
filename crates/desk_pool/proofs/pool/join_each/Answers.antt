use Rattle.std.proofs.Common.{rules, arith, [], ◌∷◌}
use Rattle.std.proofs.lemmas.List.{length-append}
use Rattle.desk_pool.proofs.PoolLemmas.{joins_more, takes_more}
use Rattle.td_base.specs.Works.{work_of}
use Rattle.desk_pool.proofs.pool.join_each.Goals as goal

pub loop-running-preserved : goal.loop-running-preserved
loop-running-preserved g c =
    let before = c.loop-running in record {
      whole = takes_more before.yielded before.running-iterator.rest.items c.in-Some.running c.next.new.self.rest.items _
          before.invariant.whole c.in-Some.ensures.steps.0;
      dones = rw c.push_reserved.ensures.items (joins_more work_of g.W.Work.does before.yielded before.dones.items
          c.in-Some.running c.join.result before.invariant.dones c.join.ensures.does);
      room = search rules;
      steady = search rules;
      joined = omega (arith, before.invariant.joined, c.join.ensures.joined, length-append before.yielded (c.in-Some.running ∷ []));
      later = search rules;
    }
