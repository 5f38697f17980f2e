use Rattle.std.proofs.Common.{◌∙◌}
use Rattle.td_civil.proofs.lemmas.DateText.{other_date_length, other_date, own_date, judged_as}
use Rattle.td_civil.proofs.date_text.is_date.Goals as goal

pub returns-then-text-ne10-clause-exact : goal.returns-then-text-ne10-clause-exact
returns-then-text-ne10-clause-exact c = other_date_length _ c.if-text-ne10.true

pub returns-then-text-ne10-clause-dates : goal.returns-then-text-ne10-clause-dates
returns-then-text-ne10-clause-dates c = judged_as _ _ (returns-then-text-ne10-clause-exact c)

pub returns-then-ne-clause-exact : goal.returns-then-ne-clause-exact
returns-then-ne-clause-exact c =
    other_date c.args.text.now c.as_slice.result.now c.four_at-year.result c.two_at-month.result c.two_at-day.result c.four_at-year.ensures
    c.two_at-month.ensures.value c.two_at-day.ensures.value (c.as_slice.ensures ∙ c.date_spelling-spelling.ensures) c.if-ne.ensures

pub returns-then-ne-clause-dates : goal.returns-then-ne-clause-dates
returns-then-ne-clause-dates c = judged_as _ _ (returns-then-ne-clause-exact c)

pub returns-clause-exact : goal.returns-clause-exact
returns-clause-exact c =
    own_date c.args.text.now c.as_slice.result.now c.four_at-year.result c.two_at-month.result c.two_at-day.result c.four_at-year.ensures
    c.two_at-month.ensures.value c.two_at-day.ensures.value (c.as_slice.ensures ∙ c.date_spelling-spelling.ensures) c.if-ne.ensures c.day_number.result _
    c.day_number.ensures.value c.is_some.result c.is_some.ensures

pub returns-clause-dates : goal.returns-clause-dates
returns-clause-dates c = judged_as _ _ (returns-clause-exact c)
