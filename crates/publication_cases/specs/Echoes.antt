-- What is answered by what only counts.
use Rattle.std.specs.Prelude.{None, false}
use Rattle.answer_cache.specs.declared.key.Key.{Key}
use Rattle.http_answer.specs.declared.answer.Answer.{Answer}

-- the answer that has the target as its body
abbrev pub echoed : Key → Answer
echoed key = record { status = 200; kind = None; tag = None; moved = false; body = key.target }
