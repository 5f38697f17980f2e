use Rattle.sync_laws.proofs.Statuses.{list_taken, refusal_taken, zone_taken}
use Rattle.sync_laws.proofs.exchanges.responses_are_taken_by_status.Goals as goal

pub returns-clause-lists : goal.returns-clause-lists
returns-clause-lists c = list_taken

pub returns-clause-zones : goal.returns-clause-zones
returns-clause-zones c = zone_taken

pub returns-clause-refusals : goal.returns-clause-refusals
returns-clause-refusals c = refusal_taken
