use Rattle.reader_laws.proofs.Lined.{lines_are}
use Rattle.reader_laws.proofs.parts.parts_have_their_lines.Goals as goal

pub returns : goal.returns
returns c = lines_are
