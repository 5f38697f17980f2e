use Rattle.std.proofs.Common.{◌∙◌, codes, to_z-of_z}
use Rattle.jcal.proofs.SafeTexts.{offset_is_safe}
use Rattle.jcal.proofs.TreeTokens.{property_written}
use Rattle.jcal.proofs.parts.put_offset.Goals as goal

pub put_property-requires : goal.put_property-requires
put_property-requires c =
    let exact = simp (to_z-of_z c.ranges.offset) at c.offset_value.ensures in
    offset_is_safe _ c.args.offset (c.as_slice.ensures.value ∙ exact)

pub returns-clause-tokens : goal.returns-clause-tokens
returns-clause-tokens c =
    let exact = simp (to_z-of_z c.ranges.offset) at c.offset_value.ensures in
    property_written c.args.name.now (codes "utc-offset") _ _ _ _ c.in_ok-put_property.ensures.tokens (c.as_slice.ensures.value ∙ exact)
