use Rattle.std.proofs.Common.{◌≡◌, ◌∙◌, ◌<◌, ◌≤◌, false, true, length, map, rules, arith}
use Rattle.std.proofs.lemmas.List.{length-map}
use Rattle.std.proofs.lemmas.Result.{err_from_is_err_and}
use Rattle.catalogue.specs.HeldZones.{held_content}
use Rattle.catalogue.specs.Holdings.{release_held}
use Rattle.zone_meaning.specs.ZoneHistories.{zone_bytes}
use Rattle.installer.proofs.Stated.{from_end, from_parts, borrowed_at, zones_differ}
use Rattle.installer.proofs.Whether.{fault_left, known_not, less_left, none_left, not_left, whether_is}
use Rattle.installer.proofs.comparing.are_zones.Goals as goal

pub returns-in_err-same : goal.returns-in_err-same
returns-in_err-same g c =
    let p = err_from_is_err_and c.from_residual.result c.from_residual.ensures.1 in
    rw (p.1, p.2) (fault_left _ _ _ _ _ _ _ c.loop-at.invariant c.in_err-same.ensures)

pub returns-then-not-same : goal.returns-then-not-same
returns-then-not-same g c =
    let less : c.loop-at.at < length c.args.zones.now = search rules in
    let parts = from_parts (map (λ z. z.now) c.args.zones.now) (release_held zone_bytes c.args.last.now).contents c.loop-at.at _ _
    (borrowed_at (λ z. z.now) c.args.zones.now c.loop-at.at _ less c.index-zones-at.is) c.content_at.ensures in
    not_left _ _ _ _ _ _ (λ files h. ((parts files).0 h).0) c.loop-at.invariant (whether_is _ _ _ _ false c.if-not-same.true c.in_ok-same.ensures)

pub loop-at-preserved : goal.loop-at-preserved
loop-at-preserved g c =
    let less : c.loop-at.at < length c.args.zones.now = search rules in
    let parts = from_parts (map (λ z. z.now) c.args.zones.now) (release_held zone_bytes c.args.last.now).contents c.loop-at.at _ _
    (borrowed_at (λ z. z.now) c.args.zones.now c.loop-at.at _ less c.index-zones-at.is) c.content_at.ensures in
    less_left _ _ _ _ _ _ _ parts c.loop-at.invariant (whether_is _ _ _ _ true c.if-not-same.false c.in_ok-same.ensures)

pub returns-then-zones-count : goal.returns-then-zones-count
returns-then-zones-count g c =
    known_not _ _ (zones_differ (λ z. z.now) c.args.zones.now (release_held zone_bytes c.args.last.now).contents
    (λ e. (
    let many : length c.args.zones.now ≡ length c.args.last.now.held = e ∙ length-map c.args.last.now.held (held_content zone_bytes) in
    search (many, rules))))

pub returns : goal.returns
returns g c =
    let over : length c.args.zones.now ≤ c.loop-at.at = search rules in
    let many : length c.args.zones.now ≡ length c.args.last.now.held = search rules in
    none_left _ _ _ _ (from_end (map (λ z. z.now) c.args.zones.now) (release_held zone_bytes c.args.last.now).contents c.loop-at.at
    (rw (length-map c.args.zones.now) over) (rw (length-map c.args.last.now.held) (omega (arith, over, many)))) c.loop-at.invariant
