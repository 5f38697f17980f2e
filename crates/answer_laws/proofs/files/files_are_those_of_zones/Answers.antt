use Rattle.answer_laws.proofs.Told.{tells_the_file}
use Rattle.answer_laws.proofs.files.files_are_those_of_zones.Goals as goal

pub returns : goal.returns
returns c = tells_the_file
