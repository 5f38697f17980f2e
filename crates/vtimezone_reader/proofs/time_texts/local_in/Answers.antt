use Rattle.std.proofs.Common.{sym, ap, ◌∙◌}
use Rattle.td_civil.specs.Reading.{moment_in}
use Rattle.vtimezone_reader.proofs.LocalTimes.{local_is, not_local}
use Rattle.vtimezone_reader.proofs.time_texts.local_in.Goals as goal

pub returns-then-not-is_date_time-clause-value : goal.returns-then-not-is_date_time-clause-value
returns-then-not-is_date_time-clause-value c = not_local c.args.text.now (sym c.if-not-is_date_time.ensures.value)

pub returns-clause-value : goal.returns-clause-value
returns-clause-value c =
    c.moment_in.ensures.value ∙ ap moment_in c.separated.ensures ∙ local_is c.args.text.now (sym c.if-not-is_date_time.ensures.value)
