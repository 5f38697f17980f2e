use Rattle.std.proofs.Common.{◌≡◌, ◌++◌, drop}
use Rattle.catalogue.proofs.making.copy_tokens.Given as goal

abbrev pub invariant-loop-token : goal.invariant-loop-token
invariant-loop-token l = l.copied ++ drop l.token-index l.tokens ≡ l.tokens
