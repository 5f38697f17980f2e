use Rattle.release_manifest.proofs.MeaningLemmas.{no_fault, has_manifest, one_manifest}
use Rattle.release_manifest.proofs.laws.one_meaning.Goals as goal

pub returns : goal.returns
returns c = record { found = has_manifest; sound = no_fault; one = one_manifest }
