use Rattle.sync_laws.proofs.Cutting.{refusal_not_taken}
use Rattle.sync_laws.proofs.cuts.refusals_are_not_taken.Goals as goal

pub returns : goal.returns
returns c = λ a status bytes after more h is begins. refusal_not_taken a status bytes h is (record { after = after; more = more; is = begins })
