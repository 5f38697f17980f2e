use Rattle.tzif_reader.proofs.lemmas.Whole.{only_one}
use Rattle.tzif_reader.proofs.laws.one_zone_file.Goals as goal

pub returns-clause-one : goal.returns-clause-one
returns-clause-one c = only_one
