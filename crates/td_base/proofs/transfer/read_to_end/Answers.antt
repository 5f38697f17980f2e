use Rattle.std.proofs.Common.{rules, arith}
use Rattle.std.proofs.lemmas.Result.{err_from_is_err_and}
use Rattle.td_base.proofs.TransferLemmas.{part_read}
use Rattle.td_base.proofs.transfer.read_to_end.Goals as goal

pub returns-in_err-append-in-Got : goal.returns-in_err-append-in-Got
returns-in_err-append-in-Got g c =
    let p = err_from_is_err_and c.from_residual.result c.from_residual.ensures.1 in rw p.1 record {
      bytes = part_read _ _ _ _ _ _ _ c.pieces.invariant.told c.in-Got.ensures.read.told (search rules);
      later = omega (arith, c.pieces.invariant.steady, c.in-Got.ensures.read.later);
      once = omega (arith, c.pieces.invariant.steady, c.in-Got.ensures.read.once);
      steady = tt;
      failed = λ e. absurd (cc (e, p.2));
    }
