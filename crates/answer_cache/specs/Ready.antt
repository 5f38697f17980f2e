-- An answer in its written reply.
use Rattle.std.specs.Prelude.{◌≡◌, ℕ, ◌+◌, List, ◌∷◌, length, drop, flat_map, false}
use Rattle.std.specs.Prelude.{if◌then◌else◌}
use Rattle.http_answer.specs.Replies.{IsAnswerStatus, ended, fields, is_unchanged, reply, status_line}
use Rattle.http_answer.specs.declared.answer.Answer.{Answer}

-- the lines of the head of a reply after which the connection stays open
abbrev pub head_lines : Answer → List ℕ
head_lines answer = flat_map ended (status_line answer.status ∷ fields answer false)

-- the answer whose body begins in its reply after so many bytes, unless it is not written (304)
abbrev pub answer_in : Answer → List ℕ → ℕ → Answer
answer_in rest written head =
    record rest { body = if is_unchanged rest.status then rest.body else drop head written }

-- it is the reply of that answer, and its lines and the empty line end there
pub record IsReady (rest : Answer) (written : List ℕ) (head : ℕ) : Type 0 where
  pub status : IsAnswerStatus rest.status
  pub is : written ≡ reply (answer_in rest written head) false false
  pub begins : head ≡ length (head_lines (answer_in rest written head)) + 2
