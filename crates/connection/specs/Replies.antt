-- The replies to the requests of a connection (RFC 9112, section 9).
use Rattle.std.specs.Prelude.{◌≡◌, ℕ, ◌+◌, ◌<◌, List, [], ◌∷◌, ◌++◌, length, Bool, false, ◌||◌}
use Rattle.std.specs.Prelude.{◌==◌}
use Rattle.std.specs.List.{list_any}
use Rattle.http_answer.specs.Replies.{reply}
use Rattle.http_answer.specs.declared.answer.Answer.{Answer}
use Rattle.http_request.specs.declared.head.Head.{Head}
use Rattle.td_base.specs.declared.report.TheConstants.{MOST_PLACES}

-- the connection closes after this request, where so many came before it: it asks for that, or no
-- place is left for another
abbrev pub is_last : ℕ → Head → Bool
is_last before head = head.close || (before + 1 == MOST_PLACES)

-- after these requests the connection is open: none asks that it be closed, and more may come
pub record IsOpen (heads : List Head) : Type 0 where
  pub kept : list_any (λ h. h.close) heads ≡ false
  pub few : length heads < MOST_PLACES

-- the reply to a request, which is answered at this place of a history
abbrev pub reply_at : (answer : ℕ → Head → Answer) → ℕ → Head → ℕ → List ℕ
reply_at answer before head place = reply (answer place head) head.head_only (is_last before head)

-- the replies to requests, each answered at its place; so many came before them
unfoldable pub replies_after : (answer : ℕ → Head → Answer) → ℕ → List Head → List ℕ → List ℕ
replies_after answer before [] places = []
replies_after answer before (head ∷ heads) [] = []
replies_after answer before (head ∷ heads) (place ∷ places) =
    reply_at answer before head place ++ replies_after answer (before + 1) heads places

abbrev pub replies : (answer : ℕ → Head → Answer) → List Head → List ℕ → List ℕ
replies answer heads places = replies_after answer 0 heads places
