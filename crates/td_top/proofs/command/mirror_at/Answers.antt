use Rattle.std.proofs.Common.{rules}
use Rattle.td_top.proofs.Addresses.{address_is_plain}
use Rattle.td_top.proofs.command.mirror_at.Goals as goal

pub returns-clause-meant : goal.returns-clause-meant
returns-clause-meant c = search (address_is_plain, rules)
