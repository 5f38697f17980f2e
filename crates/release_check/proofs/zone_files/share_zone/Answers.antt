use Rattle.std.proofs.Common.{◌∙◌, ap, arith, length}
use Rattle.std.proofs.lemmas.Result.{err_from_is_err_and}
use Rattle.tzif_reader.specs.declared.zone_file.LeapLine.{LeapLine}
use Rattle.zone_meaning.specs.FaultLemmas.{file_clear}
use Rattle.release_check.proofs.ZoneFiles.{file_fault-leaps, file_fault-meant, no_leaps, sound_zone}
use Rattle.release_check.proofs.zone_files.share_zone.Goals as goal

pub returns-then-leaps-gt0-clause-judged : goal.returns-then-leaps-gt0-clause-judged
returns-then-leaps-gt0-clause-judged c = (
  λ e. cc,
  λ _. file_fault-leaps c.args.number c.args.zone.now c.lists.result (file_clear _ c.lists.ensures.no_fault)
      c.lists.ensures.lists (omega (arith, ap (length {A = LeapLine}) c.leaps.ensures)),
)

pub returns-in_err-judge_zone-clause-judged : goal.returns-in_err-judge_zone-clause-judged
returns-in_err-judge_zone-clause-judged c =
    let p = err_from_is_err_and c.from_residual.result c.from_residual.ensures.1 in
    let is = file_fault-meant c.args.number c.args.zone.now (file_clear _ c.lists.ensures.no_fault)
    (no_leaps c.args.zone.now c.lists.result c.lists.ensures.lists (omega (arith, ap (length {A = LeapLine}) c.leaps.ensures))) c.lists.ensures.no_fault in
    rw (p.1, p.2) (c.in_err-judge_zone.ensures.judged.0, λ ne. is ∙ c.in_err-judge_zone.ensures.judged.1 ne)

pub returns-clause-judged : goal.returns-clause-judged
returns-clause-judged c =
    file_fault-meant c.args.number c.args.zone.now (file_clear _ c.lists.ensures.no_fault)
    (no_leaps c.args.zone.now c.lists.result c.lists.ensures.lists (omega (arith, ap (length {A = LeapLine}) c.leaps.ensures))) c.lists.ensures.no_fault
    ∙ c.in_ok-judge_zone.ensures.judged

pub returns-clause-zone : goal.returns-clause-zone
returns-clause-zone c = (
  c.in_ok-shared.ensures,
  sound_zone c.args.number c.args.zone.now c.lists.ensures.no_fault
      (no_leaps c.args.zone.now c.lists.result c.lists.ensures.lists (omega (arith, ap (length {A = LeapLine}) c.leaps.ensures))) c.in_ok-judge_zone.ensures.judged,
)
