use Rattle.std.proofs.Common.{Ok, Err, option_copied}
use Rattle.std.proofs.lemmas.Result.{err_from_is_err_and}
use Rattle.release_check.specs.Before.{before_held}
use Rattle.release_check.proofs.Fitting.{formed_read}
use Rattle.release_check.proofs.Folders.{folder_read}
use Rattle.release_check.proofs.Looking.{finds_as, finds_then, same_err, ok_is_no_err}
use Rattle.release_check.proofs.checking.folder_in.Goals as goal

pub release_of-requires : goal.release_of-requires
release_of-requires g c = let meant = c.in_ok-manifest.ensures.meant in formed_read meant.0 c.in_ok-manifest.manifest meant.1

pub returns-in_err-manifest-clause-found : goal.returns-in_err-manifest-clause-found
returns-in_err-manifest-clause-found g c =
    let p = err_from_is_err_and c.from_residual.result c.from_residual.ensures.1 in
    rw (p.1, p.2) (finds_as _ _ _ _ _ _ (λ files h. h) (same_err _ _) (c.in_err-manifest.ensures.found (before_held (option_copied c.args.last))))

pub returns-in_err-release-clause-found : goal.returns-in_err-release-clause-found
returns-in_err-release-clause-found g c =
    let p = err_from_is_err_and c.from_residual-in_err-release.result c.from_residual-in_err-release.ensures.1 in
    rw (p.1, p.2) (finds_then _ _ _ _ _ _ _ _ _
    (λ files. folder_read files c.args.dir.now (before_held (option_copied c.args.last)) c.in_ok-manifest.manifest (Err c.in_err-release.field-0.0))
    (same_err _ _) (c.in_ok-manifest.ensures.found (before_held (option_copied c.args.last))) c.in_err-release.ensures.found)

pub returns-clause-found : goal.returns-clause-found
returns-clause-found g c =
    finds_then _ _ _ _ _ _ _ _ _
    (λ files. folder_read files c.args.dir.now (before_held (option_copied c.args.last)) c.in_ok-manifest.manifest (Ok c.in_ok-release.release))
    (λ e. absurd (ok_is_no_err _ _ e)) (c.in_ok-manifest.ensures.found (before_held (option_copied c.args.last))) c.in_ok-release.ensures.found
