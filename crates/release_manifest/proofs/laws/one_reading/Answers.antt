use Rattle.release_manifest.proofs.ReadingLemmas.{text_no_fault, text_manifest, one_text_manifest}
use Rattle.release_manifest.proofs.laws.one_reading.Goals as goal

pub returns : goal.returns
returns c = record { found = text_manifest; sound = text_no_fault; one = one_text_manifest }
