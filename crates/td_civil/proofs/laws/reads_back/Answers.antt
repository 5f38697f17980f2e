use Rattle.td_civil.proofs.lemmas.Shown.{text_spells, reads_back_lem}
use Rattle.td_civil.proofs.laws.reads_back.Goals as goal

pub returns-clause-spells : goal.returns-clause-spells
returns-clause-spells c = text_spells

pub returns-clause-reads : goal.returns-clause-reads
returns-clause-reads c = reads_back_lem
