use Rattle.std.proofs.Common.{append_assoc, arith, w32, FitsSigned, to_z-of_z}
use Rattle.std.proofs.lemmas.List.{append-nil}
use Rattle.std.proofs.lemmas.List.Concat.{flat_map-append}
use Rattle.jiff_core.proofs.SignedLemmas.{signed_arith}
use Rattle.vtimezone.specs.CalendarText.{part_lines}
use Rattle.vtimezone.proofs.calendar_text.append_part.Goals as goal

pub returns-clause-ok : goal.returns-clause-ok
unfolding part_lines
returns-clause-ok c =
    let from = c.requires.from in
    let fits : FitsSigned w32 c.args.part.now.from = omega (arith, signed_arith) in
    let dates = simp (to_z-of_z fits) at c.in_ok-append_dates.ensures.ok in
    rw (
      c.in_ok-line-2.ensures.ok,
      c.in_ok-append_rule.ensures.ok,
      dates,
      c.in_ok-append_change.ensures.ok,
      c.in_ok-line.ensures.ok,
      c.kind-2.ensures,
      c.kind.ensures,
    ) (simp (append_assoc, flat_map-append, append-nil))
