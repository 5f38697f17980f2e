use Rattle.std.proofs.Common.{map}
use Rattle.catalogue.specs.Holdings.{release_held}
use Rattle.zone_meaning.specs.ZoneHistories.{zone_bytes}
use Rattle.installer.proofs.Stated.{AreFrom}
use Rattle.installer.proofs.Whether.{LeavesToFind}
use Rattle.installer.proofs.comparing.are_zones.Given as goal

abbrev pub invariant-loop-at : goal.invariant-loop-at
invariant-loop-at g l = LeavesToFind (g.S.Store.seen l.fn.store) (g.S.Store.seen l.store)
    (AreFrom (map (λ z. z.now) l.zones) (release_held zone_bytes l.last).contents 0)
    (AreFrom (map (λ z. z.now) l.zones) (release_held zone_bytes l.last).contents l.at)
