use Rattle.std.proofs.Common.{ap}
use Rattle.std.specs.Option.{option_copied}
use Rattle.jcal.proofs.TreeTokens.{alias_written}
use Rattle.jcal.proofs.calendars.put_alias.Goals as goal

pub returns-in_ok-put_property-clause-tokens : goal.returns-in_ok-put_property-clause-tokens
returns-in_ok-put_property-clause-tokens c =
    alias_written (option_copied c.args.alias_of) _ _ _ c.in_ok-put_property.ensures.tokens (ap option_copied c.in-Some.is)
