use Rattle.jcal.proofs.SafeTexts.{moment_is_safe}
use Rattle.jcal.proofs.TreeTokens.{end_written}
use Rattle.jcal.proofs.calendars.put_end.Goals as goal

pub put_property-requires : goal.put_property-requires
put_property-requires c = moment_is_safe _ c.in-Some.end.seconds c.utc_text.ensures.exact

pub returns-in_ok-put_property-clause-tokens : goal.returns-in_ok-put_property-clause-tokens
returns-in_ok-put_property-clause-tokens c =
    end_written c.args.until c.in-Some.end _ _ _ c.in_ok-put_property.ensures.tokens c.utc_text.ensures.exact c.in-Some.is
