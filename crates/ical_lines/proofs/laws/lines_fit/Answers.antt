use Rattle.ical_lines.proofs.lemmas.LawLemmas.{lines_fit}
use Rattle.ical_lines.proofs.laws.lines_fit.Goals as goal

pub returns : goal.returns
returns c = lines_fit
