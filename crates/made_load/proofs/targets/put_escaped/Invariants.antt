use Rattle.std.proofs.Common.{◌≡◌, ◌++◌}
use Rattle.percent_encoding.specs.Iter.{encoded_text}
use Rattle.percent_encoding.specs.Percent.{percent_encode}
use Rattle.http_client.specs.declared.requesting.TheConstants.{ESCAPED}
use Rattle.made_load.proofs.targets.put_escaped.Given as goal

abbrev pub invariant-loop-piece : goal.invariant-loop-piece
invariant-loop-piece l = l.out ++ encoded_text l.piece-iterator ≡ l.fn.out ++ percent_encode ESCAPED l.fn.text
