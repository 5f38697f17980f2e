use Rattle.jcal.proofs.SafeTexts.{moment_is_safe}
use Rattle.jcal.proofs.recurs.put_last.Goals as goal

pub put_text-requires : goal.put_text-requires
put_text-requires c = moment_is_safe _ c.in-Some.last.seconds c.utc_text.ensures.exact
