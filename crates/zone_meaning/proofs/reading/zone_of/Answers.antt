use Rattle.std.proofs.Common.{sym, ap, ◌∙◌}
use Rattle.std.proofs.lemmas.Result.{err_from_is_err_and}
use Rattle.tzif_reader.specs.Faults.{first_fault}
use Rattle.zone_meaning.proofs.Refusals.{file_refused_as}
use Rattle.zone_meaning.proofs.reading.zone_of.Goals as goal

pub returns-in_err-lists-clause-fault : goal.returns-in_err-lists-clause-fault
returns-in_err-lists-clause-fault c =
    let p = err_from_is_err_and c.from_residual.result c.from_residual.ensures.1 in
    rw (p.1, p.2) (file_refused_as c.args.file c.in_err-lists.field-0.0 (λ other. ap first_fault (sym c.as_slice.ensures) ∙ c.in_err-lists.ensures.fault other))
