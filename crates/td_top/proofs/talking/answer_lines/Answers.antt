use Rattle.td_top.proofs.talking.answer_lines.Goals as goal

pub returns-in-NoMemory-clause-talks : goal.returns-in-NoMemory-clause-talks
returns-in-NoMemory-clause-talks g c = λ start at. c.in-NoMemory.ensures.turns start (c.loop.invariant.at start at)
