use Rattle.std.proofs.Common.{to_z-of_z}
use Rattle.jcal.proofs.TreeTokens.{dates_written}
use Rattle.jcal.proofs.parts.put_date_property.Goals as goal

pub returns-clause-tokens : goal.returns-clause-tokens
returns-clause-tokens c =
    dates_written c.args.first c.args.dates.now c.args.offset _ _ _ _ _ _
    c.in_ok-begin_property.ensures.tokens c.in_ok-put_text.ensures.tokens (simp (to_z-of_z c.ranges.offset) at c.local_text.ensures.text)
    (simp (to_z-of_z c.ranges.offset) at c.in_ok-put_local_times.ensures.tokens) c.in_ok-end_array.ensures.ok
