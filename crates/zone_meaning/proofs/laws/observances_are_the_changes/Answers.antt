use Rattle.zone_meaning.specs.Observed.{observed}
use Rattle.zone_meaning.proofs.lemmas.RangeLemmas.{are_observed}
use Rattle.zone_meaning.proofs.RangeMeaning.{one_list}
use Rattle.zone_meaning.proofs.laws.observances_are_the_changes.Goals as goal

pub returns-clause-are : goal.returns-clause-are
returns-clause-are c = are_observed

pub returns-clause-one : goal.returns-clause-one
returns-clause-one c state a b list lt is = one_list state a b list (observed state a b) is (are_observed state a b lt)
