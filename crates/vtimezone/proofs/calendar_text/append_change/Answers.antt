use Rattle.std.proofs.Common.{append_assoc, arith, w32, FitsSigned, to_z-of_z}
use Rattle.std.proofs.lemmas.List.{append-nil}
use Rattle.jiff_core.proofs.SignedLemmas.{signed_arith}
use Rattle.vtimezone.specs.CalendarText.{change_lines}
use Rattle.vtimezone.proofs.calendar_text.append_change.Goals as goal

pub returns-clause-ok : goal.returns-clause-ok
unfolding change_lines
returns-clause-ok c =
    let from = c.requires.from in
    let to = c.requires.to in
    let fits_from : FitsSigned w32 c.args.part.now.from = omega (arith, signed_arith) in
    let fits_to : FitsSigned w32 c.args.part.now.to = omega (arith, signed_arith) in
    let start = simp (to_z-of_z fits_from) at c.in_ok-append_start.ensures.ok in
    let before = simp (to_z-of_z fits_from) at c.in_ok-append_offset.ensures.ok in
    let after = simp (to_z-of_z fits_to) at c.in_ok-append_offset-2.ensures.ok in
    rw (c.in_ok-line.ensures.ok, c.as_slice.ensures.value, after, before, start) (simp (append_assoc, append-nil))
