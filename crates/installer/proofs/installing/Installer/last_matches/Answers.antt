use Rattle.catalogue.specs.Holdings.{history_of, release_held}
use Rattle.zone_meaning.specs.ZoneHistories.{zone_bytes}
use Rattle.installer.proofs.Stated.{served_as}
use Rattle.installer.proofs.Whether.{whether_as}
use Rattle.installer.proofs.installing.Installer.last_matches.Goals as goal

pub is_stated-requires : goal.is_stated-requires
is_stated-requires g c = (history_of c.args.self.now.list, c.last.ensures.stands)

pub returns : goal.returns
returns g c =
    whether_as _ _ _ _ _
    (λ files. served_as files c.args.manifest.now (history_of c.args.self.now.list) (release_held zone_bytes c.last.result.now) c.last.ensures.stands.last)
    c.is_stated.ensures
