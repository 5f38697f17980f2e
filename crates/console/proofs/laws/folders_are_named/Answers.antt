use Rattle.console.proofs.LineLemmas.{named_folder}
use Rattle.console.proofs.laws.folders_are_named.Goals as goal

pub returns : goal.returns
returns c = named_folder
