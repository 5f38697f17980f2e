use Rattle.posix_footer.proofs.lemmas.StateLemmas.{onset_rises}
use Rattle.posix_footer.proofs.laws.onsets_rise.Goals as goal

pub returns : goal.returns
returns c = onset_rises
