use Rattle.std.proofs.Common.{◌<◌, ◌≤◌, length, rules}
use Rattle.catalogue.specs.Lookups.{zones_of}
use Rattle.catalogue.specs.Releases.{content_data}
use Rattle.zone_meaning.specs.ZoneHistories.{zone_bytes}
use Rattle.admission.proofs.Changes.{all_listed, changes_at}
use Rattle.admission.proofs.differing.changes_in.Goals as goal

pub loop-at-preserved : goal.loop-at-preserved
loop-at-preserved c = λ H s.
    let less : c.loop-at.at < length c.args.zones.now = search rules in
    changes_at (λ z. content_data zone_bytes z.now) (zones_of H) c.loop-at.changed _ _ c.args.zones.now c.loop-at.at c.index-zones-at.result
    c.in_ok-change.change less c.index-zones-at.is (c.in_ok-change.ensures H s) c.in_ok-put_if_any.ensures (c.loop-at.invariant H s)

pub returns : goal.returns
returns c = λ H s.
    let end : length c.args.zones.now ≤ c.loop-at.at = search rules in
    all_listed (λ z. content_data zone_bytes z.now) (zones_of H) c.loop-at.changed _ c.args.zones.now c.loop-at.at end (c.loop-at.invariant H s)
