use Rattle.std.specs.Option.{option_copied}
use Rattle.jcal.proofs.TreeTokens.{zone_properties_written}
use Rattle.jcal.proofs.calendars.put_zone_properties.Goals as goal

pub returns-clause-tokens : goal.returns-clause-tokens
returns-clause-tokens c =
    zone_properties_written c.args.tzid.now (option_copied c.args.alias_of) c.args.until _ _ _ _
    c.in_ok-put_property.ensures.tokens c.in_ok-put_alias.ensures.tokens c.in_ok-put_end.ensures.tokens
