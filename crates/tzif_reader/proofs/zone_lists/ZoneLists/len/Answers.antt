use Rattle.std.proofs.Common.{length, sym, ap, ◌∙◌}
use Rattle.tzif_reader.specs.declared.zone_file.ZoneFile.{ZoneFile}
use Rattle.tzif_reader.proofs.Places.{length_items}
use Rattle.tzif_reader.proofs.zone_lists.ZoneLists.len.Goals as goal

pub returns-clause-moments : goal.returns-clause-moments
returns-clause-moments c = sym (length_items _ _) ∙ ap (λ (z : ZoneFile). length z.moments) c.self.view_is
