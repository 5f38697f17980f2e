use Rattle.std.proofs.Common.{arith}
use Rattle.catalogue.proofs.lemmas.Tokens.{tokens_apart}
use Rattle.catalogue.proofs.laws.tokens_are_apart.Goals as goal

pub returns : goal.returns
returns c = λ G H m n hm hn e. tokens_apart G H m n (omega arith) (omega arith) e
