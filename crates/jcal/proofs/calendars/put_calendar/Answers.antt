use Rattle.std.proofs.Common.{codes, ◌∷◌, []}
use Rattle.std.specs.Option.{option_copied}
use Rattle.jcal.specs.Tree.{calendar_properties, calendar_data, tree}
use Rattle.jcal.proofs.TreeTokens.{component_written, one_written}
use Rattle.jcal.proofs.calendars.put_calendar.Goals as goal

pub returns-clause-tokens : goal.returns-clause-tokens
unfolding tree
returns-clause-tokens c =
    let zone = calendar_data c.args.tzid.now (option_copied c.args.alias_of) c.args.parts.now c.args.until in
    component_written (codes "vcalendar") calendar_properties (zone ∷ []) _ _ _ _ _ _
    c.in_ok-begin_component.ensures.tokens c.in_ok-put_calendar_properties.ensures.tokens c.in_ok-begin_components.ensures.tokens
    (one_written zone _ _ c.in_ok-put_zone.ensures.tokens) c.in_ok-end_component.ensures.tokens
