use Rattle.std.proofs.Common.{ap, ◌∙◌, ◌&&◌, sym}
use Rattle.zone_meaning.proofs.ZoneNames.{names_judged, names_refused}
use Rattle.zone_meaning.proofs.zone_names.has_printable_names.Goals as goal

pub returns-then-are_printable : goal.returns-then-are_printable
returns-then-are_printable c =
    ap (λ b. b && c.has_printable_rule.result) (sym c.if-are_printable.true)
    ∙ names_judged c.args.zone.now c.lists.result c.kinds.result.now c.footer.result.now c.are_printable.result c.has_printable_rule.result
    c.lists.ensures.lists c.kinds.ensures c.footer.ensures.footer c.are_printable.ensures c.has_printable_rule.ensures

pub returns-else-are_printable : goal.returns-else-are_printable
returns-else-are_printable c =
    names_refused c.args.zone.now c.lists.result c.kinds.result.now c.are_printable.result c.lists.ensures.lists c.kinds.ensures
    c.if-are_printable.false c.are_printable.ensures
