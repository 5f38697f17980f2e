use Rattle.std.proofs.Common.{◌≡◌, ◌∙◌, ap, sym, None, arith}
use Rattle.tzif_reader.specs.Cut.{lists_of}
use Rattle.tzif_reader.specs.Faults.{first_fault}
use Rattle.std.proofs.lemmas.Result.{err_from_is_err_and}
use Rattle.release_check.specs.Faults.{meaning_fault}
use Rattle.release_check.proofs.ZoneFiles.{file_fault-leaps, file_fault-meant}
use Rattle.release_check.proofs.ZoneFiles.{judged_by_reader, judged_by_zone, no_leaps, sound_zone}
use Rattle.release_check.proofs.zone_files.parse_zone.Goals as goal

pub returns-in-Err-clause-judged : goal.returns-in-Err-clause-judged
returns-in-Err-clause-judged c =
    rw (c.of_reader.ensures) (judged_by_reader c.args.number c.args.file c.in-Err.fault (λ ne. ap first_fault (sym c.as_slice.ensures)
    ∙ c.in-Err.ensures.fault ne))

pub returns-then-len-gt0-clause-judged : goal.returns-then-len-gt0-clause-judged
returns-then-len-gt0-clause-judged c =
    let none : first_fault c.args.file ≡ None = ap first_fault (sym c.as_slice.ensures) ∙ c.in-Ok.ensures.no_fault in
    (λ e. cc, λ _. file_fault-leaps c.args.number c.args.file c.in-Ok.lists none (c.in-Ok.ensures.exact ∙ ap lists_of c.as_slice.ensures) (omega arith))

pub returns-in-Err-zone_from_lists-clause-judged : goal.returns-in-Err-zone_from_lists-clause-judged
returns-in-Err-zone_from_lists-clause-judged c =
    let none : first_fault c.args.file ≡ None = ap first_fault (sym c.as_slice.ensures) ∙ c.in-Ok.ensures.no_fault in
    rw (c.of_zone.ensures) (judged_by_zone c.args.number c.args.file c.in-Err-zone_from_lists.fault none
    (no_leaps c.args.file c.in-Ok.lists (c.in-Ok.ensures.exact ∙ ap lists_of c.as_slice.ensures) (omega arith))
    c.in-Err-zone_from_lists.ensures.fault)

pub returns-in_err-judge_zone-clause-judged : goal.returns-in_err-judge_zone-clause-judged
returns-in_err-judge_zone-clause-judged c =
    let none : first_fault c.args.file ≡ None = ap first_fault (sym c.as_slice.ensures) ∙ c.in-Ok.ensures.no_fault in
    let p = err_from_is_err_and c.from_residual.result c.from_residual.ensures.1 in
    let is = file_fault-meant c.args.number c.args.file none
    (no_leaps c.args.file c.in-Ok.lists (c.in-Ok.ensures.exact ∙ ap lists_of c.as_slice.ensures) (omega arith))
    c.in-Ok-zone_from_lists.ensures.no_fault in
    rw (p.1, p.2) (
      c.in_err-judge_zone.ensures.judged.0,
      λ ne. is ∙ ap (meaning_fault c.args.number) (sym c.in-Ok-zone_from_lists.ensures.found)
          ∙ c.in_err-judge_zone.ensures.judged.1 ne,
    )

pub returns-clause-judged : goal.returns-clause-judged
returns-clause-judged c =
    let none : first_fault c.args.file ≡ None = ap first_fault (sym c.as_slice.ensures) ∙ c.in-Ok.ensures.no_fault in
    file_fault-meant c.args.number c.args.file none
    (no_leaps c.args.file c.in-Ok.lists (c.in-Ok.ensures.exact ∙ ap lists_of c.as_slice.ensures) (omega arith))
    c.in-Ok-zone_from_lists.ensures.no_fault
    ∙ ap (meaning_fault c.args.number) (sym c.in-Ok-zone_from_lists.ensures.found) ∙ c.in_ok-judge_zone.ensures.judged

pub returns-clause-zone : goal.returns-clause-zone
returns-clause-zone c = (
  c.in-Ok-zone_from_lists.ensures.found,
  sound_zone c.args.number c.args.file c.in-Ok-zone_from_lists.ensures.no_fault
      (no_leaps c.args.file c.in-Ok.lists (c.in-Ok.ensures.exact ∙ ap lists_of c.as_slice.ensures) (omega arith))
      (ap (meaning_fault c.args.number) (sym c.in-Ok-zone_from_lists.ensures.found) ∙ c.in_ok-judge_zone.ensures.judged),
)
