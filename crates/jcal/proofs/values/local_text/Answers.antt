use Rattle.std.proofs.Common.{refl, to_z-of_z}
use Rattle.td_civil.specs.Calendar.{text_of, local_text_of}
use Rattle.jcal.specs.Values.{local_text}
use Rattle.jcal.proofs.SafeTexts.{local_is_safe}
use Rattle.jcal.proofs.values.local_text.Goals as goal

pub returns-clause-text : goal.returns-clause-text
unfolding local_text text_of local_text_of
returns-clause-text c =
    let exact = simp (to_z-of_z c.ranges.offset) at c.local_stamp-s.ensures.exact in
    rw exact refl

pub returns-clause-safe : goal.returns-clause-safe
returns-clause-safe c = local_is_safe _ c.args.moment.seconds c.args.offset (returns-clause-text c)
