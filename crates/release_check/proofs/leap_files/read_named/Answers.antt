use Rattle.std.proofs.Common.{◌∙◌, ap}
use Rattle.td_civil.specs.Reading.{is_date_text}
use Rattle.std.proofs.lemmas.Result.{err_from_is_err_and}
use Rattle.release_check.proofs.LeapFiles.{table_absent, table_refused, table_read, sound_read}
use Rattle.release_check.proofs.Looking.{finds_as, same_err, err_is, ok_is_no_err}
use Rattle.release_check.proofs.leap_files.read_named.Goals as goal

pub returns-in_err-file-clause-found : goal.returns-in_err-file-clause-found
returns-in_err-file-clause-found g c =
    let p = err_from_is_err_and c.from_residual.result c.from_residual.ensures.1 in
    rw (p.1, p.2) (finds_as _ _ _ _ _ _
    (λ files. table_absent files c.args.dir.now c.args.leaps.now c.as_slice.result.now _ c.as_slice.ensures)
    (same_err _ _) c.in_err-file.ensures)

pub returns-in_err-table-clause-found : goal.returns-in_err-table-clause-found
returns-in_err-table-clause-found g c =
    let p = err_from_is_err_and c.from_residual-in_err-table.result c.from_residual-in_err-table.ensures.1 in
    rw (p.1, p.2) (finds_as _ _ _ _ _ _
    (λ files. table_refused files c.args.dir.now c.args.leaps.now c.as_slice.result.now c.in_ok-file.file _ c.as_slice.ensures c.in_err-table.ensures.judged.1)
    (λ e. absurd (c.in_err-table.ensures.judged.0 (err_is _ _ e)))
    c.in_ok-file.ensures)

pub returns-clause-found : goal.returns-clause-found
returns-clause-found g c =
    finds_as _ _ _ _ _ _
    (λ files. table_read files c.args.dir.now c.args.leaps.now c.as_slice.result.now c.as_slice-2.result.now c.in_ok-file.file _ c.as_slice.ensures
    c.as_slice-2.ensures
    c.in_ok-table.ensures.judged c.in_ok-table.ensures.table)
    (λ e. absurd (ok_is_no_err _ _ e)) c.in_ok-file.ensures

pub returns-clause-sound : goal.returns-clause-sound
returns-clause-sound g c =
    sound_read c.in_ok-file.file c.as_slice-2.result.now c.in_ok-table.table c.in_ok-table.ensures.judged c.in_ok-table.ensures.table
    (ap is_date_text c.as_slice-2.ensures ∙ c.requires.date)
