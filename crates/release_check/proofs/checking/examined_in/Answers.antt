use Rattle.std.proofs.Common.{Ok, Err, option_copied}
use Rattle.std.proofs.lemmas.Result.{err_from_is_err_and}
use Rattle.release_check.specs.Before.{before_held}
use Rattle.release_check.proofs.Fitting.{formed_judged}
use Rattle.release_check.proofs.Folders.{form_refused, form_passed}
use Rattle.release_check.proofs.Looking.{finds_none, finds_as, same_err, err_is}
use Rattle.release_check.proofs.checking.examined_in.Goals as goal

pub release_of-requires : goal.release_of-requires
release_of-requires g c = formed_judged c.args.manifest.now c.in_ok-judge_form.ensures

pub returns-in_err-judge_form-clause-found : goal.returns-in_err-judge_form-clause-found
returns-in_err-judge_form-clause-found g c =
    let p = err_from_is_err_and c.from_residual.result c.from_residual.ensures.1 in
    rw (p.1, p.2) (finds_none _ _ _
    (λ files. form_refused files c.args.dir.now (before_held (option_copied c.args.last)) c.args.manifest.now _ c.in_err-judge_form.ensures.1)
    (λ e. c.in_err-judge_form.ensures.0 (err_is _ _ e)))

pub returns-in_err-release-clause-found : goal.returns-in_err-release-clause-found
returns-in_err-release-clause-found g c =
    let p = err_from_is_err_and c.from_residual-in_err-release.result c.from_residual-in_err-release.ensures.1 in
    rw (p.1, p.2) (finds_as _ _ _ _ _ _
    (λ files. form_passed files c.args.dir.now (before_held (option_copied c.args.last)) c.args.manifest.now (Err c.in_err-release.field-0.0)
    c.in_ok-judge_form.ensures)
    (same_err _ _) c.in_err-release.ensures.found)

pub returns-clause-found : goal.returns-clause-found
returns-clause-found g c =
    finds_as _ _ _ _ _ _
    (λ files. form_passed files c.args.dir.now (before_held (option_copied c.args.last)) c.args.manifest.now (Ok c.in_ok-release.release)
    c.in_ok-judge_form.ensures)
    (λ e. e) c.in_ok-release.ensures.found
