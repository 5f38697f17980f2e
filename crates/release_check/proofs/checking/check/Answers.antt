use Rattle.std.proofs.Common.{option_copied}
use Rattle.release_check.specs.Found.{IsReleaseIn}
use Rattle.release_check.proofs.Histories.{found_each, fits_result}
use Rattle.release_check.proofs.checking.check.Goals as goal

pub returns-clause-found : goal.returns-clause-found
returns-clause-found g c = found_each _ _ (option_copied c.args.last) c.folder_in.result (λ b. IsReleaseIn c.args.dir.now b c.folder_in.result)
    c.folder_in.ensures.found

pub returns-clause-fits : goal.returns-clause-fits
returns-clause-fits g c = fits_result (option_copied c.args.last) c.folder_in.result c.folder_in.ensures.follows
