use Rattle.std.proofs.Common.{codes, to_z-of_z}
use Rattle.vtimezone.specs.Values.{dates_text}
use Rattle.vtimezone.proofs.DateLine.{three_pieces}
use Rattle.vtimezone.proofs.calendar_text.append_date_line.Goals as goal

pub returns-clause-ok : goal.returns-clause-ok
unfolding dates_text
returns-clause-ok c =
    let stamp = simp (to_z-of_z c.ranges.offset) at c.local_stamp.ensures.exact in
    let dates = simp (to_z-of_z c.ranges.offset) at c.in_ok-append_more_dates.ensures.ok in
    three_pieces c.args.out.now _ _ _ _ (codes "RDATE:") _ _ _ _ _ _ c.in_ok-after_name.ensures.ok c.in_ok-after_first.ensures.ok dates stamp
    c.in_ok-append.ensures.ok
