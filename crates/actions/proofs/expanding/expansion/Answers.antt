use Rattle.std.proofs.Common.{[], subst}
use Rattle.json_forms.specs.Begun.{IsExpansionBegun}
use Rattle.actions.proofs.expanding.expansion.Goals as goal

pub returns : goal.returns
returns c =
    rw (← c.as_slice.ensures)
    (c.end.ensures [] c.args.until.seconds _
    (c.in_ok-put_observed.ensures [] c.args.until.seconds []
    (subst (λ before. IsExpansionBegun before c.args.until.seconds [] c.in_ok-text.text) c.new.ensures c.in_ok-text.ensures)))
