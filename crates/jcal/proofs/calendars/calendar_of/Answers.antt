use Rattle.std.specs.Option.{option_copied}
use Rattle.jcal.specs.Tree.{tree, calendar}
use Rattle.jcal.proofs.TreeTokens.{text_of_tree}
use Rattle.jcal.proofs.calendars.calendar_of.Goals as goal

pub returns : goal.returns
unfolding calendar
returns c =
    text_of_tree (tree c.args.tzid.now (option_copied c.args.alias_of) c.args.parts.now c.args.until) _ _ _ _ _ _ _
    c.new.ensures.items c.new-out.ensures.before c.new-out.ensures.tokens c.in_ok-put_calendar.ensures.before c.in_ok-put_calendar.ensures.tokens
    c.into_inner.ensures.items c.from.ensures
