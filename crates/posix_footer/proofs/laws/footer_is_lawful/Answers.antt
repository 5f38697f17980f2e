use Rattle.posix_footer.proofs.lemmas.Lawfulness.{read_lawful}
use Rattle.posix_footer.proofs.laws.footer_is_lawful.Goals as goal

pub returns : goal.returns
returns c = read_lawful
