use Rattle.std.proofs.Common.{refl}
use Rattle.catalogue.specs.Holdings.{history_of}
use Rattle.td_top.proofs.FollowLines.{opens}
use Rattle.run_ends.proofs.lemmas.Installing.{parts_desks}
use Rattle.td_top.proofs.mirror_feed.open_stated.Goals as goal

pub returns-clause-stated : goal.returns-clause-stated
returns-clause-stated g c =
    opens c.in_ok-manifest.store c.in_ok-manifest.manifest c.args.mirror.now c.in_ok-manifest.ensures.manifest
    c.in_ok-manifest.ensures.files _ (λ p. history_of p.0.list) (c.in_ok-installer.installer, c.in_ok-installer.desks)
    c.in_ok-installer.installer.list c.in_ok-installer.ensures.found refl

pub returns-clause-desks : goal.returns-clause-desks
returns-clause-desks g c =
    let parts = parts_desks c.in_ok-installer.installer.pair _ c.in_ok-installer.installer.list c.in_ok-installer.desks.items
    c.pop.new.self.items c.pop.result c.unwrap-desk.result c.args.workers refl c.pop.ensures.items c.unwrap-desk.ensures
    c.in_ok-installer.ensures.number c.in_ok-installer.ensures.each in
    record { number = parts.0; seen = parts.1; nobody = c.in_ok-installer.ensures.nobody }
