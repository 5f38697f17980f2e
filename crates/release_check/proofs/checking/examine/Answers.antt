use Rattle.std.proofs.Common.{option_copied}
use Rattle.release_check.specs.Found.{IsExaminedIn}
use Rattle.release_check.proofs.Histories.{found_each, fits_result}
use Rattle.release_check.proofs.checking.examine.Goals as goal

pub returns-clause-found : goal.returns-clause-found
returns-clause-found g c = found_each _ _ (option_copied c.args.last) c.examined_in.result
    (λ b. IsExaminedIn c.args.dir.now c.args.manifest.now b c.examined_in.result) c.examined_in.ensures.found

pub returns-clause-fits : goal.returns-clause-fits
returns-clause-fits g c = fits_result (option_copied c.args.last) c.examined_in.result c.examined_in.ensures.follows
