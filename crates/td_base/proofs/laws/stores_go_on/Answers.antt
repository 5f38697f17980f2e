use Rattle.td_base.proofs.lemmas.LaterLemmas.{store_refl, store_trans, store_failed_then, store_then_failed, looks_later}
use Rattle.td_base.proofs.laws.stores_go_on.Goals as goal

pub returns-clause-refl : goal.returns-clause-refl
returns-clause-refl c = store_refl

pub returns-clause-trans : goal.returns-clause-trans
returns-clause-trans c = store_trans

pub returns-clause-failed_first : goal.returns-clause-failed_first
returns-clause-failed_first c = store_failed_then

pub returns-clause-failed_last : goal.returns-clause-failed_last
returns-clause-failed_last c = store_then_failed

pub returns-clause-one_look : goal.returns-clause-one_look
returns-clause-one_look c = looks_later
