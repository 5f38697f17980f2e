use Rattle.catalogue.specs.HeldZones.{entry_data}
use Rattle.zone_meaning.specs.ZoneHistories.{zone_bytes}
use Rattle.admission.proofs.Naming.{named_at, none_named}
use Rattle.admission.proofs.differing.zone_named.Goals as goal

pub returns-in-None : goal.returns-in-None
returns-in-None c = λ H s. none_named H c.args.name.now (c.in-None.ensures.place H s)

pub returns-in-Some : goal.returns-in-Some
returns-in-Some c = λ H s.
    named_at H c.args.name.now c.in-Some.at (entry_data zone_bytes c.entry.result.now) (c.in-Some.ensures.place H s) (c.entry.ensures.entry H s)
