use Rattle.std.proofs.Common.{None}
use Rattle.vtimezone_reader.specs.Written.{parts_after}
use Rattle.vtimezone_reader.proofs.LinesBack.{text_back, line_text, alias_line, readable}
use Rattle.vtimezone_reader.proofs.ZoneWritten.{zone_written}
use Rattle.vtimezone_reader.proofs.laws.zone_is_read.Goals as goal

pub returns : goal.returns
returns c = λ file from tzid alias_of sound meaning named also short.
    let parts = parts_after file from in
    let spelled = c.zone_parts_are_spellable.ensures file (record { from = from; until = None }) sound.no_fault sound.names sound.carried meaning tt in
    let written = zone_written file from sound.no_fault sound.names sound.carried meaning spelled.1.0 in
    text_back tzid alias_of parts None named also spelled.0 written tt short
    (c.calendar_reads_back.ensures tzid alias_of parts None (line_text tzid named) (alias_line alias_of also) (readable parts written))
