-- The answers that are kept from one request to the next, whichever connection asks.
use Rattle.std.specs.Prelude.{◌≡◌, ℕ, ◌+◌, ◌-◌, ◌^◌, ◌<◌, ◌≤◌, ◌⊎◌, List, [], length, Contains, Bool}
use Rattle.std.specs.Prelude.{IsTrue, false, min}
use Rattle.answer_cache.specs.Computing.{RoseByOne}
use Rattle.answer_cache.specs.Keeping.{AddsOne, IsKeyAmong}
use Rattle.answer_cache.specs.declared.key.Key.{Key}
use Rattle.catalogue.specs.Holdings.{history_of}
use Rattle.catalogue.specs.Releases.{ReleaseData}
use Rattle.catalogue.specs.declared.holding.Catalogue.{Catalogue}
use Rattle.http_answer.specs.Replies.{IsAnswerStatus, reply}
use Rattle.http_answer.specs.declared.answer.Answer.{Answer}
use Rattle.http_request.specs.declared.head.Head.{Head}
use Rattle.json_forms.specs.PlainTexts.{IsPlainRole}
use Rattle.publication.specs.Views.{DeskView}
use Rattle.td_base.specs.TargetForm.{has_form}
use Rattle.td_base.specs.declared.report.Role.{Role}
use Rattle.connection.specs.Serving.{ForEachLonger, answer_at}
use Rattle.connection.specs.declared.kept_answers.KeptAnswers.{KeptAnswers}

-- what the answer to a request at a place of a history depends on
abbrev pub key_of : ℕ → Head → Key
key_of place head = record {
  place = place;
  target = head.target;
  accept = head.accept;
  none_match = head.none_match;
}

-- a request that asks for what the key does
abbrev pub head_of_key : Key → Head
head_of_key key = record {
  head_only = false;
  target = key.target;
  accept = key.accept;
  none_match = key.none_match;
  close = false;
}

-- the answer to a key: over the releases of a history up to its place
abbrev pub answer_to : List ReleaseData → Role → Key → Answer
answer_to H role key = answer_at H role key.place (head_of_key key)

-- it is the answer to the key over the history that the desk has seen, and over each that begins
-- with it
pub record IsAnswerToKey (desk : DeskView (Catalogue (List ℕ))) (role : Role) (key : Key)
    (answer : Answer) : Type 0 where
  pub is : ForEachLonger (history_of desk.seen) (λ H. answer ≡ answer_to H role key)
  pub status : IsAnswerStatus answer.status

-- a key that asks for the last place that the desk has seen, of a server that can answer it
pub record IsKeyNow (desk : DeskView (Catalogue (List ℕ))) (role : Role) (key : Key)
    : Type 0 where
  pub plain : IsPlainRole role
  pub form : IsTrue (has_form key.target)
  pub place : key.place ≡ length desk.seen

-- each of these answers is that to its key
abbrev pub AreAnswers : DeskView (Catalogue (List ℕ)) → Role → List (Key × Answer) → Type 0
AreAnswers desk role pairs =
    (key : Key) (answer : Answer) → Contains pairs (key, answer)
    → IsAnswerToKey desk role key answer

-- each kept answer is that to its key
pub record KeepsAnswers (desk : DeskView (Catalogue (List ℕ))) (role : Role) (k : KeptAnswers)
    : Type 0 where
  pub many : AreAnswers desk role k.many.kept
  pub large : AreAnswers desk role k.large.kept

-- every pair that is kept was kept before or is this one, and no answer was computed
pub record KeepsOneOf (before now : KeptAnswers) (key : Key) (answer : Answer) : Type 0 where
  pub many : AddsOne before.many.kept now.many.kept key answer
  pub large : AddsOne before.large.kept now.large.kept key answer
  pub computed : now.computed ≡ before.computed

-- no answer is kept, and none was computed
pub record KeepsNothing (k : KeptAnswers) : Type 0 where
  pub many : k.many.kept ≡ []
  pub large : k.large.kept ≡ []
  pub computed : k.computed ≡ 0

-- the reply to a request at the last place that the desk has seen, over each history that begins
-- with the one that it has seen
abbrev pub IsReplyNow : DeskView (Catalogue (List ℕ)) → Role → Head → Bool → List ℕ → Type 0
IsReplyNow desk role head close bytes = ForEachLonger (history_of desk.seen)
    (λ H. bytes ≡ reply (answer_at H role (length desk.seen) head) head.head_only close)

-- the reply with the answer to a key
pub record RepliesTo (desk : DeskView (Catalogue (List ℕ))) (role : Role) (key : Key)
    (head_only close : Bool) (bytes : List ℕ) : Type 0 where
  pub answer : Answer
  pub right : IsAnswerToKey desk role key answer
  pub is : bytes ≡ reply answer head_only close

-- an answer to the key is kept
abbrev pub IsKept : KeptAnswers → Key → Type 0
IsKept k key = IsKeyAmong k.many.kept key ⊎ IsKeyAmong k.large.kept key

-- what is kept to the key is not computed, and what is not is computed once
pub record ComputesUnlessKept (before now : KeptAnswers) (key : Key) : Type 0 where
  pub hit : IsKept before key → now.computed ≡ before.computed
  pub miss : (IsKept before key → ⊥) → RoseByOne before.computed now.computed

-- at most one answer was computed
pub record ComputesOnce (before now : ℕ) : Type 0 where
  pub later : before ≤ now
  pub once : now ≤ before + 1

-- no more answers were computed than places were told
pub record ComputesFew (before now : ℕ) (old new : List ℕ) : Type 0 where
  pub later : before ≤ now
  pub few : now + length old ≤ before + length new

-- no answer is kept
abbrev pub IsEmptyCache : KeptAnswers → Type 0
IsEmptyCache k = (k.many.kept ≡ []) × (k.large.kept ≡ [])

-- Where no answer was kept before and a place was added, an answer was computed: the count rose,
-- or stands at 18446744073709551615, its last value.
pub record ComputesFirst (before now : KeptAnswers) (old new : List ℕ) : Type 0 where
  pub first : IsEmptyCache before → length old < length new
      → min (before.computed + 1) (2 ^ 64 - 1) ≤ now.computed
