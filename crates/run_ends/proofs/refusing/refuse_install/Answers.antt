use Rattle.std.proofs.Common.{rules}
use Rattle.run_ends.proofs.lemmas.Refusals.{refuses_told}
use Rattle.run_ends.proofs.refusing.refuse_install.Goals as goal

pub returns-in_default : goal.returns-in_default
returns-in_default g c = search (refuses_told, rules)
