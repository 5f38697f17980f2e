use Rattle.vtimezone_reader.proofs.LinesBack.{text_back, line_text, alias_line, readable}
use Rattle.vtimezone_reader.proofs.laws.reads_back.Goals as goal

pub returns : goal.returns
returns c = λ tzid alias_of parts until named also some each end short.
    text_back tzid alias_of parts until named also some each end short
    (c.calendar_reads_back.ensures tzid alias_of parts until (line_text tzid named) (alias_line alias_of also) (readable parts each))
