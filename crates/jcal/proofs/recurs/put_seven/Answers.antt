use Rattle.std.proofs.Common.{arith, w16, FitsSigned, to_z-of_z, append_assoc, ◌+ℤ◌, pos}
use Rattle.jiff_core.proofs.SignedLemmas.{signed_arith}
use Rattle.jcal.proofs.recurs.put_seven.Goals as goal

pub returns-clause-tokens : goal.returns-clause-tokens
returns-clause-tokens c =
    let low = c.requires.0 in
    let high = c.requires.1 in
    let one : FitsSigned w16 (c.args.first +ℤ pos 1) = omega (arith, signed_arith) in
    let two : FitsSigned w16 (c.args.first +ℤ pos 2) = omega (arith, signed_arith) in
    let three : FitsSigned w16 (c.args.first +ℤ pos 3) = omega (arith, signed_arith) in
    let four : FitsSigned w16 (c.args.first +ℤ pos 4) = omega (arith, signed_arith) in
    let five : FitsSigned w16 (c.args.first +ℤ pos 5) = omega (arith, signed_arith) in
    let six : FitsSigned w16 (c.args.first +ℤ pos 6) = omega (arith, signed_arith) in
    rw (
      c.in_ok-end_array.ensures.ok,
      c.in_ok-put_integer-7.ensures.tokens,
      c.in_ok-put_integer-6.ensures.tokens,
      c.in_ok-put_integer-5.ensures.tokens,
      c.in_ok-put_integer-4.ensures.tokens,
      c.in_ok-put_integer-3.ensures.tokens,
      c.in_ok-put_integer-2.ensures.tokens,
      c.in_ok-put_integer.ensures.tokens,
      c.in_ok-begin_array.ensures.ok,
      c.in_ok-key.ensures.ok,
      to_z-of_z c.ranges.first,
      to_z-of_z one,
      to_z-of_z two,
      to_z-of_z three,
      to_z-of_z four,
      to_z-of_z five,
      to_z-of_z six,
    ) (simp append_assoc)
