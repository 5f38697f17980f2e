use Rattle.run_ends.proofs.lemmas.Refusals.{refuses_as}
use Rattle.plain_commands.proofs.state_line.refuse_absent.Goals as goal

pub returns-in-Ok : goal.returns-in-Ok
returns-in-Ok g c = refuses_as _ _ _ _ _ c.in-Ok.ensures c.refuse.ensures
