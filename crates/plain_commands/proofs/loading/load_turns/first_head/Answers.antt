use Rattle.std.proofs.Common.{arith}
use Rattle.plain_commands.proofs.loading.load_turns.first_head.Goals as goal

pub returns-in-End-clause-first : goal.returns-in-End-clause-first
returns-in-End-clause-first c = record {
  len = c.in-End.len;
  ends = c.in-End.ensures.0;
  first_is = c.split_at.ensures.front;
  rest_is = c.split_at.ensures.back;
}

pub returns-in-End-clause-fewer : goal.returns-in-End-clause-fewer
returns-in-End-clause-fewer c =
    let bounds = c.searches.ensures.end c.args.heads.now c.in-End.len c.in-End.ensures.0 in omega (arith, bounds.0, c.split_at.ensures.back_len)
