use Rattle.jcal.proofs.TreeTokens.{calendar_properties_written}
use Rattle.jcal.proofs.calendars.put_calendar_properties.Goals as goal

pub returns-clause-tokens : goal.returns-clause-tokens
returns-clause-tokens c = calendar_properties_written _ _ _ c.in_ok-put_property.ensures.tokens c.in_ok-put_property-2.ensures.tokens
