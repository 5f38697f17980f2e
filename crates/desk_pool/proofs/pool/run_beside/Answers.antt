use Rattle.desk_pool.proofs.PoolLemmas.{refused_results}
use Rattle.td_base.specs.Works.{work_of}
use Rattle.desk_pool.proofs.pool.run_beside.Goals as goal

pub returns-in-Refused-clause-results : goal.returns-in-Refused-clause-results
returns-in-Refused-clause-results g c =
    refused_results work_of g.W.Work.does c.args.works.items c.in-Refused.running.items c.join_each-in-Refused.result.items
    c.in-Refused.ensures.works.0 c.in-Refused.ensures.works.1 c.join_each-in-Refused.ensures.dones
