use Rattle.reader_laws.proofs.Parted.{parts_are_read}
use Rattle.reader_laws.proofs.calendars.calendars_have_their_parts.Goals as goal

pub returns : goal.returns
returns c = parts_are_read
