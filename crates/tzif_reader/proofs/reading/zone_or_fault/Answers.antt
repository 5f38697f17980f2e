use Rattle.tzif_reader.specs.Views.{parts_view}
use Rattle.tzif_reader.proofs.Named.{named}
use Rattle.tzif_reader.proofs.reading.zone_or_fault.Goals as goal

pub zone_from-requires-clause-named : goal.zone_from-requires-clause-named
zone_from-requires-clause-named c =
    named c.in_ok-frame.frame.counts (parts_view c.fields_of-block.result) c.in_ok-check.ensures.no_fault
