use Rattle.std.proofs.Common.{[]}
use Rattle.jcal.specs.Tree.{component_kind, part_properties, part_data}
use Rattle.jcal.proofs.TreeTokens.{component_written, none_written}
use Rattle.jcal.proofs.parts.put_part.Goals as goal

pub returns-clause-tokens : goal.returns-clause-tokens
unfolding part_data
returns-clause-tokens c =
    component_written (component_kind c.args.part.now.dst) (part_properties c.args.part.now) [] _ _ _ _ _ _
    (rw c.kind.ensures at c.in_ok-begin_component.ensures.tokens) c.in_ok-put_properties.ensures.tokens c.in_ok-begin_components.ensures.tokens
    (none_written _) c.in_ok-end_component.ensures.tokens
