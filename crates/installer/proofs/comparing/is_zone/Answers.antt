use Rattle.catalogue.specs.Releases.{content_as_is}
use Rattle.zone_meaning.specs.ZoneHistories.{zone_bytes}
use Rattle.installer.proofs.Stated.{zone_is, zone_names}
use Rattle.installer.proofs.Whether.{known_not, whether_as}
use Rattle.installer.proofs.comparing.is_zone.Goals as goal

pub returns-then-not-same : goal.returns-then-not-same
returns-then-not-same g c =
    known_not _ _ (λ files e.
    let t = c.in_ok-same.ensures.1 (zone_names files c.args.zone.now (content_as_is zone_bytes c.args.held.now) e) in
    cc (t, c.if-not-same.true))

pub returns : goal.returns
returns g c =
    let names = c.in_ok-same.ensures.0 c.if-not-same.false in
    whether_as _ _ _ _ _ (λ files. zone_is files c.args.zone.now (content_as_is zone_bytes c.args.held.now) names.0 names.1)
    (rw (c.as_slice.ensures, c.file_bytes.ensures) at c.is_file.ensures)
