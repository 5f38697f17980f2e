use Rattle.reader_laws.proofs.OnsetTests.{onset_is}
use Rattle.reader_laws.proofs.onsets.onsets_are_those_of_parts.Goals as goal

pub returns : goal.returns
returns c = onset_is
