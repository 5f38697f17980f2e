use Rattle.catalogue.proofs.lemmas.Tokens.{place_found}
use Rattle.catalogue.proofs.laws.tokens_find_places.Goals as goal

pub returns : goal.returns
returns c = place_found
