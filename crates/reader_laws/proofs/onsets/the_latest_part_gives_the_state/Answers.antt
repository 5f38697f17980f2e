use Rattle.reader_laws.proofs.LatestPart.{latest_gives}
use Rattle.reader_laws.proofs.onsets.the_latest_part_gives_the_state.Goals as goal

pub returns : goal.returns
returns c = latest_gives
