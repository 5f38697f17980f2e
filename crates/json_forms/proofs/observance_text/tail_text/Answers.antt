use Rattle.std.proofs.Common.{rules, FitsSigned, w32, to_z-of_z, ap, ◌∙◌}
use Rattle.std.specs.Fmt.{signed_decimal}
use Rattle.json_forms.proofs.PieceTexts.{tail_joined}
use Rattle.json_forms.proofs.observance_text.tail_text.Goals as goal

pub returns : goal.returns
returns c =
    let from : FitsSigned w32 c.args.from = search rules in
    let to : FitsSigned w32 c.args.to = search rules in
    tail_joined _ _ _ _ _ _ _ _ _ _
    c.new-tail.ensures
    c.append.ensures
    c.append-2.ensures
    (c.as_bytes.ensures.value ∙ c.format.ensures.text ∙ ap signed_decimal (to_z-of_z from))
    c.append-3.ensures
    c.append-4.ensures
    (c.as_bytes-2.ensures.value ∙ c.format-2.ensures.text ∙ ap signed_decimal (to_z-of_z to))
    c.append-5.ensures
