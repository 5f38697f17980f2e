use Rattle.find_pattern.proofs.SpellingLemmas.{reads_back}
use Rattle.find_pattern.proofs.laws.reads_back.Goals as goal

pub returns : goal.returns
returns c = λ p h. reads_back p.lead p.trail p.text h
