use Rattle.td_base.proofs.lemmas.LaterLemmas.{source_refl, source_trans, source_failed_then, source_then_failed, reads_later, reads_to_later}
use Rattle.td_base.proofs.laws.sources_go_on.Goals as goal

pub returns-clause-refl : goal.returns-clause-refl
returns-clause-refl c = source_refl

pub returns-clause-trans : goal.returns-clause-trans
returns-clause-trans c = source_trans

pub returns-clause-failed_first : goal.returns-clause-failed_first
returns-clause-failed_first c = source_failed_then

pub returns-clause-failed_last : goal.returns-clause-failed_last
returns-clause-failed_last c = source_then_failed

pub returns-clause-one_read : goal.returns-clause-one_read
returns-clause-one_read c = reads_later

pub returns-clause-all_read : goal.returns-clause-all_read
returns-clause-all_read c = reads_to_later
