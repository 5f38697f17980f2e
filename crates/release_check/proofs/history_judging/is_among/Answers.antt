use Rattle.std.proofs.Common.{◌∙◌}
use Rattle.release_check.proofs.Repeats.{is_kept}
use Rattle.release_check.proofs.history_judging.is_among.Goals as goal

pub returns : goal.returns
returns c = c.contains.ensures ∙ is_kept (λ n. n.now) c.args.names.now.keys c.args.name.now
