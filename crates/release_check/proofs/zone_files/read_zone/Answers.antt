use Rattle.std.proofs.Common.{◌∙◌, ap}
use Rattle.std.proofs.lemmas.Result.{err_from_is_err_and}
use Rattle.catalogue.specs.Order.{rising_by}
use Rattle.release_check.proofs.Contents.{zone_absent, zone_refused, zone_read}
use Rattle.release_check.proofs.Looking.{finds_as, same_err, err_is, ok_is_no_err}
use Rattle.release_check.proofs.zone_files.read_zone.Goals as goal

pub returns-in_err-file-clause-found : goal.returns-in_err-file-clause-found
returns-in_err-file-clause-found g c =
    let p = err_from_is_err_and c.from_residual.result c.from_residual.ensures.1 in
    rw (p.1, p.2) (finds_as _ _ _ _ _ _
    (λ files. zone_absent files c.args.dir.now c.args.number c.args.zone.now c.as_slice.result.now _ c.as_slice.ensures)
    (same_err _ _) c.in_err-file.ensures)

pub returns-in_err-meant-clause-found : goal.returns-in_err-meant-clause-found
returns-in_err-meant-clause-found g c =
    let p = err_from_is_err_and c.from_residual-in_err-meant.result c.from_residual-in_err-meant.ensures.1 in
    rw (p.1, p.2) (finds_as _ _ _ _ _ _
    (λ files. zone_refused files c.args.dir.now c.args.number c.args.zone.now c.as_slice.result.now c.in_ok-file.file _ c.as_slice.ensures
    c.in_err-meant.ensures.judged.1)
    (λ e. absurd (c.in_err-meant.ensures.judged.0 (err_is _ _ e)))
    c.in_ok-file.ensures)

pub returns-clause-found : goal.returns-clause-found
returns-clause-found g c =
    finds_as _ _ _ _ _ _
    (λ files. zone_read files c.args.dir.now c.args.number c.args.zone.now c.as_slice.result.now c.in_ok-file.file _ c.as_slice.ensures
    c.in_ok-meant.ensures.judged
    (c.in_ok-from_slice.ensures ∙ c.as_slice-3.ensures) (c.in_ok-copy_texts.ensures ∙ c.as_slice-4.ensures) c.in_ok-meant.ensures.zone.0)
    (λ e. absurd (ok_is_no_err _ _ e)) c.in_ok-file.ensures

pub returns-clause-of : goal.returns-clause-of
returns-clause-of g c = record {
  tzid = c.in_ok-from_slice.ensures ∙ c.as_slice-3.ensures;
  aliases = ap (rising_by (λ a. a)) (c.in_ok-copy_texts.ensures ∙ c.as_slice-4.ensures);
  file = rw c.in_ok-meant.ensures.zone.0 c.in_ok-meant.ensures.zone.1;
}
