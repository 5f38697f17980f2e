use Rattle.td_base.proofs.lemmas.LaterLemmas.{conn_refl, conn_trans, conn_source, conn_sink, conn_reads_later, conn_writes_later, sends_later}
use Rattle.td_base.proofs.laws.conns_go_on.Goals as goal

pub returns-clause-refl : goal.returns-clause-refl
returns-clause-refl c = conn_refl

pub returns-clause-trans : goal.returns-clause-trans
returns-clause-trans c = conn_trans

pub returns-clause-read : goal.returns-clause-read
returns-clause-read c = conn_source

pub returns-clause-written : goal.returns-clause-written
returns-clause-written c = conn_sink

pub returns-clause-one_read : goal.returns-clause-one_read
returns-clause-one_read c = conn_reads_later

pub returns-clause-one_write : goal.returns-clause-one_write
returns-clause-one_write c = conn_writes_later

pub returns-clause-all_written : goal.returns-clause-all_written
returns-clause-all_written c = sends_later
