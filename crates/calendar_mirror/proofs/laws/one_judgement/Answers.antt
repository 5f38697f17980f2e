use Rattle.calendar_mirror.proofs.Judgements.{one_judgement}
use Rattle.calendar_mirror.proofs.laws.one_judgement.Goals as goal

pub returns : goal.returns
returns c = one_judgement
