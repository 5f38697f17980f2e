use Rattle.std.proofs.Common.{◌∙◌, ap, map}
use Rattle.catalogue.specs.Holdings.{release_held}
use Rattle.catalogue.specs.Order.{rising_by}
use Rattle.zone_meaning.specs.ZoneHistories.{zone_bytes}
use Rattle.installer.proofs.Stated.{stated_head}
use Rattle.installer.proofs.Whether.{known_not, release_found}
use Rattle.installer.proofs.comparing.is_stated.Goals as goal

pub returns-then-not-has_head : goal.returns-then-not-has_head
returns-then-not-has_head g c =
    known_not _ _ (λ files e.
    let t = c.has_head.ensures.1 (stated_head files c.args.manifest.now (release_held zone_bytes c.args.last.now) e) in
    cc (t, c.if-not-has_head.true))

pub returns : goal.returns
returns g c =
    let head = c.has_head.ensures.0 c.if-not-has_head.false in
    release_found _ _ c.args.manifest.now (release_held zone_bytes c.args.last.now) _ _ head
    (ap (λ xs. map (λ z. z.now) xs) c.as_slice-2.ensures.value ∙ c.in_ok-zones.ensures ∙ ap (rising_by (λ z. z.tzid)) c.as_slice.ensures)
    c.are_zones.ensures
