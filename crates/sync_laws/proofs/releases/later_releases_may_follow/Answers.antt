use Rattle.sync_laws.proofs.Following.{may_follow}
use Rattle.sync_laws.proofs.releases.later_releases_may_follow.Goals as goal

pub returns-clause-stamp : goal.returns-clause-stamp
returns-clause-stamp c = λ P G m n s t last history low le within held holds served. (may_follow P G m n s t last history low le within held holds served).stamp

pub returns-clause-names : goal.returns-clause-names
returns-clause-names c = λ P G m n s t last history low le within held holds served. (may_follow P G m n s t last history low le within held holds served).names
