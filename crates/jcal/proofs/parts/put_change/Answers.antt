use Rattle.std.proofs.Common.{rules, FitsSigned, w32, codes, to_z-of_z}
use Rattle.jcal.proofs.TreeTokens.{property_written, change_written}
use Rattle.jcal.proofs.parts.put_change.Goals as goal

pub returns-clause-tokens : goal.returns-clause-tokens
returns-clause-tokens c =
    let from : FitsSigned w32 c.args.part.now.from = search rules in
    let to : FitsSigned w32 c.args.part.now.to = search rules in
    let start = simp (to_z-of_z from) at c.local_text.ensures.text in
    change_written c.args.part.now _ _ _ _ _
    (property_written (codes "dtstart") (codes "date-time") _ _ _ _ c.in_ok-put_property.ensures.tokens start)
    (simp (to_z-of_z from) at c.in_ok-put_offset.ensures.tokens)
    (simp (to_z-of_z to) at c.in_ok-put_offset-2.ensures.tokens)
    (property_written (codes "tzname") (codes "text") _ _ _ _ c.in_ok-put_property-2.ensures.tokens c.as_slice.ensures.value)
