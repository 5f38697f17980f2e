use Rattle.zone_meaning.proofs.lemmas.NameLemmas.{zone_name, observance_name}
use Rattle.zone_meaning.proofs.laws.names_are_printable.Goals as goal

pub returns-clause-states : goal.returns-clause-states
returns-clause-states c = zone_name

pub returns-clause-observances : goal.returns-clause-observances
returns-clause-observances c = observance_name
