use Rattle.td_base.proofs.lemmas.PlainLemmas.{identifier_is_plain, label_is_plain}
use Rattle.td_base.proofs.laws.names_are_plain.Goals as goal

pub returns-clause-identifier : goal.returns-clause-identifier
returns-clause-identifier c = identifier_is_plain

pub returns-clause-label : goal.returns-clause-label
returns-clause-label c = label_is_plain
