use Rattle.std.proofs.lemmas.Result.{err_from_is_err_and}
use Rattle.release_check.proofs.Folders.{manifest_absent, manifest_refused, manifest_read}
use Rattle.release_check.proofs.Looking.{finds_as, same_err, err_is, ok_is_no_err}
use Rattle.release_check.proofs.checking.read_manifest.Goals as goal

pub returns-in_err-text-clause-found : goal.returns-in_err-text-clause-found
returns-in_err-text-clause-found g c = λ before.
    let p = err_from_is_err_and c.from_residual.result c.from_residual.ensures.1 in
    rw (p.1, p.2) (finds_as _ _ _ _ _ _ (λ files. manifest_absent files c.args.dir.now before _) (same_err _ _) c.in_err-text.ensures)

pub returns-in_err-manifest-clause-found : goal.returns-in_err-manifest-clause-found
returns-in_err-manifest-clause-found g c = λ before.
    let p = err_from_is_err_and c.from_residual-in_err-manifest.result c.from_residual-in_err-manifest.ensures.1 in
    rw (p.1, p.2) (finds_as _ _ _ _ _ _
    (λ files. manifest_refused files c.args.dir.now before c.in_ok-text.text _ c.in_err-manifest.ensures.fault)
    (λ e. absurd (c.in_err-manifest.ensures.fault.0 (err_is _ _ e)))
    c.in_ok-text.ensures)

pub returns-clause-found : goal.returns-clause-found
returns-clause-found g c = λ before.
    finds_as _ _ _ _ _ _ (λ files. manifest_read files c.args.dir.now before c.in_ok-text.text _ c.in_ok-manifest.ensures.found)
    (λ e. absurd (ok_is_no_err _ _ e)) c.in_ok-text.ensures
