use Rattle.reader_laws.proofs.Worded.{words_are}
use Rattle.reader_laws.proofs.rules.rules_have_no_interval.Goals as goal

pub returns : goal.returns
returns c = words_are
