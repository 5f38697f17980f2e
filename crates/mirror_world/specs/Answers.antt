-- The exchanges of a mirror with a primary, as their bytes.
use Rattle.std.specs.Prelude.{◌≡◌, ℕ, ◌<◌, ◌≤◌, List, [], ◌∷◌, length, take, false, Some, ⊤}
use Rattle.td_base.specs.declared.report.Ask.{Ask}
use Rattle.td_base.specs.declared.report.Role.TheVariants.{Primary}
use Rattle.td_base.specs.declared.upstream.Exchange.{Exchange}
use Rattle.catalogue.specs.Releases.{ReleaseData}
use Rattle.http_request.specs.Asks.{Asks, Rest}
use Rattle.http_request.specs.declared.head.Head.{Head}
use Rattle.http_answer.specs.Replies.{reply}
use Rattle.actions.specs.Action.{action}
use Rattle.mirror.specs.declared.limits.TheConstants.{MOST_ANSWER}
use Rattle.negotiate.specs.declared.choosing.Format.{Format}
use Rattle.negotiate.specs.declared.choosing.Format.TheVariants.{Tzif}
use Rattle.sync_world.specs.Hearing.{IsDataHeadOf}
use Rattle.sync_world.specs.Worlds.{Sent, SyncWorld}

-- the reply of a primary with a history to a request, after which the connection may close
abbrev pub reply_over : List ReleaseData → Head → List ℕ
reply_over G head = reply (action G Primary head) head.head_only head.close

-- the bytes of a request are one head, and nothing follows it: the head of a GET that asks so, and
-- for zones in the format
pub record IsDataRequestFor (f : Format) (a : Ask) (request : List ℕ) (head : Head) : Type 0 where
  pub reads : Asks request (head ∷ []) (Rest [])
  pub is_get : head.head_only ≡ false
  pub asks_so : IsDataHeadOf f a head

-- the request of the exchange asks so, and its answer is the reply of a primary with the history,
-- of which no more bytes are taken than a mirror takes at the most
pub record IsDataAnsweredOver (f : Format) (G : List ReleaseData) (a : Ask) (x : Exchange)
    : Type 0 where
  pub head : Head
  pub is_request : IsDataRequestFor f a x.request head
  pub most : x.most ≡ MOST_ANSWER
  pub is_answer : x.answer ≡ take x.most (reply_over G head)

-- the same of TZif files
abbrev pub IsRequestFor : Ask → List ℕ → Head → Type 0
IsRequestFor a request head = IsDataRequestFor Tzif a request head

abbrev pub IsAnsweredOver : List ReleaseData → Ask → Exchange → Type 0
IsAnsweredOver G a x = IsDataAnsweredOver Tzif G a x

-- what is outstanding in a world is answered by the exchange, over the first n releases of the
-- primary, no fewer than it had when the ask was first sent
pub record IsAnswered (over : List ReleaseData → Ask → Exchange → Type 0) (w : SyncWorld) (n : ℕ)
    (sent : Sent) (x : Exchange) : Type 0 where
  pub outstanding : w.sent ≡ Some sent
  pub from : sent.since ≤ n
  pub upto : n ≤ length w.history
  pub is_over : over (take n w.history) sent.ask x

-- each of the exchanges answers what is outstanding in a world, and has fewer bytes than a mirror
-- takes at the most, so that it is not cut
abbrev pub AreAnswered : SyncWorld → List Exchange → Type 0
AreAnswered w [] = ⊤
AreAnswered w (x ∷ xs) =
    (n : ℕ) × (sent : Sent) × IsAnswered IsAnsweredOver w n sent x
    × (length x.answer < MOST_ANSWER) × AreAnswered w xs
