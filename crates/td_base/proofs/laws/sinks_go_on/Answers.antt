use Rattle.td_base.proofs.lemmas.LaterLemmas.{sink_refl, sink_trans, sink_failed_then, sink_then_failed, writes_later, writes_all_later}
use Rattle.td_base.proofs.laws.sinks_go_on.Goals as goal

pub returns-clause-refl : goal.returns-clause-refl
returns-clause-refl c = sink_refl

pub returns-clause-trans : goal.returns-clause-trans
returns-clause-trans c = sink_trans

pub returns-clause-failed_first : goal.returns-clause-failed_first
returns-clause-failed_first c = sink_failed_then

pub returns-clause-failed_last : goal.returns-clause-failed_last
returns-clause-failed_last c = sink_then_failed

pub returns-clause-one_write : goal.returns-clause-one_write
returns-clause-one_write c = writes_later

pub returns-clause-all_written : goal.returns-clause-all_written
returns-clause-all_written c = writes_all_later
