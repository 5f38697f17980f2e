use Rattle.std.proofs.Common.{◌++◌, []}
use Rattle.made_load.specs.Requests.{accept_line, head_text, year_target, zone_requests, made_zone_target}
use Rattle.made_load.proofs.AskLemmas.{three_parts}
use Rattle.made_load.proofs.asking.put_zone_requests.Goals as goal

pub returns : goal.returns
unfolding zone_requests accept_line
returns c =
    rw (
      c.in_ok-put_head-3.ensures,
      c.in_ok-put_head-2.ensures,
      c.in_ok-put_head.ensures,
      c.as_slice-6.ensures,
      c.as_slice-5.ensures,
      c.as_slice-4.ensures,
      c.as_slice-3.ensures,
      c.in_ok-lines.ensures,
      c.in_ok-year.ensures,
      c.in_ok-zone.ensures,
      c.as_slice-2.ensures,
      c.as_slice.ensures,
    )
    (three_parts c.args.out.now (head_text (made_zone_target c.args.tzid.now) accept_line) (head_text (year_target c.args.tzid.now) [])
    (head_text (made_zone_target c.args.tzid.now) (accept_line ++ c.args.held.now)))
