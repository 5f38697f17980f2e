use Rattle.plain_commands.proofs.loading.load_line.Goals as goal

pub returns : goal.returns
returns g c = record {
  counts = c.in_ok-counts.counts;
  all = c.in_ok-counts.ensures;
  line_is = rw c.new-line.ensures at c.in_ok-summary.ensures.ok;
}
