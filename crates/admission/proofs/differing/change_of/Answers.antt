use Rattle.std.proofs.Common.{Some, ap, ◌∙◌}
use Rattle.catalogue.specs.Lookups.{named, zones_of}
use Rattle.catalogue.specs.Releases.{content_as_is, content_data}
use Rattle.zone_meaning.specs.ZoneHistories.{zone_bytes}
use Rattle.admission.proofs.Changes.{brought, new_change, one_change, zones_apart}
use Rattle.admission.proofs.differing.change_of.Goals as goal

pub returns-in_ok-tzid-in-None : goal.returns-in_ok-tzid-in-None
returns-in_ok-tzid-in-None c = λ H s.
    ap (λ t. Some (brought t)) (c.in_ok-tzid-in-None.ensures ∙ c.as_slice-in-None.ensures)
    ∙ new_change (zones_of H) (content_data zone_bytes c.args.zone.now) (c.in-None.ensures H s ∙ ap (named (zones_of H)) c.as_slice.ensures)

pub returns-in_ok-change-in-Some : goal.returns-in_ok-change-in-Some
returns-in_ok-change-in-Some c = λ H s.
    c.in_ok-change-in-Some.ensures
    ∙ one_change (zones_of H) (content_data zone_bytes c.args.zone.now) (content_as_is zone_bytes c.in-Some.had.now) (zones_apart c.args.last.now H s)
    (c.in-Some.ensures H s ∙ ap (named (zones_of H)) c.as_slice.ensures)
