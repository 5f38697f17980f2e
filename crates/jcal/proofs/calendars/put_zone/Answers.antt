use Rattle.std.proofs.Common.{codes, map}
use Rattle.std.specs.Option.{option_copied}
use Rattle.jcal.specs.Tree.{part_data, zone_properties, calendar_data}
use Rattle.jcal.proofs.TreeTokens.{component_written}
use Rattle.jcal.proofs.calendars.put_zone.Goals as goal

pub returns-clause-tokens : goal.returns-clause-tokens
unfolding calendar_data
returns-clause-tokens c =
    component_written (codes "vtimezone") (zone_properties c.args.tzid.now (option_copied c.args.alias_of) c.args.until) (map part_data c.args.parts.now) _ _ _ _ _ _
    c.in_ok-begin_component.ensures.tokens c.in_ok-put_zone_properties.ensures.tokens c.in_ok-begin_components.ensures.tokens
    c.in_ok-put_parts.ensures.tokens c.in_ok-end_component.ensures.tokens
