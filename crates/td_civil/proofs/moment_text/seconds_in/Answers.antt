use Rattle.std.proofs.Common.{◌∙◌}
use Rattle.td_civil.proofs.lemmas.Spelled.{other_length, other_text, own_text}
use Rattle.td_civil.proofs.moment_text.seconds_in.Goals as goal

pub returns-then-text-ne20-clause-value : goal.returns-then-text-ne20-clause-value
returns-then-text-ne20-clause-value c = other_length _ c.if-text-ne20.true

pub returns-then-ne-clause-value : goal.returns-then-ne-clause-value
returns-then-ne-clause-value c =
    other_text c.args.text.now c.as_slice.result.now c.in_text-fields.result c.in_text-fields.ensures (c.as_slice.ensures ∙ c.spelling-spelling.ensures)
    c.if-ne.ensures

pub returns-clause-value : goal.returns-clause-value
returns-clause-value c =
    own_text c.args.text.now c.as_slice.result.now c.in_text-fields.result c.seconds.result c.in_text-fields.ensures
    (c.as_slice.ensures ∙ c.spelling-spelling.ensures) c.if-ne.ensures c.seconds.ensures.value
