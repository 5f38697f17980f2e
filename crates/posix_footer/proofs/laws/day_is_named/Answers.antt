use Rattle.posix_footer.proofs.lemmas.OnsetLemmas.{named}
use Rattle.posix_footer.proofs.laws.day_is_named.Goals as goal

pub returns : goal.returns
returns c = named
