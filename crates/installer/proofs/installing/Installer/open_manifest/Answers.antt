use Rattle.std.proofs.Common.{[], refl, ap}
use Rattle.catalogue.specs.Holdings.{history_of}
use Rattle.installer.proofs.InstallLemmas.{grows}
use Rattle.installer.proofs.installing.Installer.open_manifest.Goals as goal

pub returns-clause-grown : goal.returns-clause-grown
returns-clause-grown g c = grows [] c.in_ok-catalogue.catalogue [] _ c.in_ok-catalogue.ensures.stands refl (ap history_of c.in_ok-publisher.ensures.list.0)
