use Rattle.ical_lines.proofs.lemmas.LawLemmas.{reads_back}
use Rattle.ical_lines.proofs.laws.reads_back.Goals as goal

pub returns : goal.returns
returns c = reads_back
