use Rattle.format_laws.proofs.CapabilityReads.{capabilities_read}
use Rattle.format_laws.proofs.documents.capabilities_read_back.Goals as goal

pub returns : goal.returns
returns c = capabilities_read
