-- Kept answers stay right, and what is replied with one is the reply at the place of the desk.
use Rattle.std.proofs.Common.{◌≡◌, ℕ, inl, inr, List, [], ◌∷◌, ◌++◌, length, take, Bool, Contains}
use Rattle.std.proofs.Common.{refl, sym, ap, ◌∙◌, subst, arith, Result, Ok, Err, IfOk}
use mathlib.Core.List.{IsPrefix}
use Rattle.actions.specs.Action.{action, answer_for}
use Rattle.answer_cache.specs.Keeping.{AddsNone, AddsOne}
use Rattle.answer_cache.specs.declared.key.Key.{Key}
use Rattle.catalogue.proofs.lemmas.HistoryLemmas.{history_length, history_longer}
use Rattle.catalogue.specs.Holdings.{StandsFor, history_of}
use Rattle.catalogue.specs.Releases.{ReleaseData}
use Rattle.catalogue.specs.declared.holding.Catalogue.{Catalogue}
use Rattle.http_answer.specs.Replies.{IsAnswerStatus, reply}
use Rattle.http_answer.specs.declared.answer.Answer.{Answer}
use Rattle.http_request.specs.declared.head.Head.{Head}
use Rattle.publication.specs.Views.{DeskView}
use Rattle.target.specs.Actions.{asks}
use Rattle.target.specs.declared.asked_types.Asked.{Asked}
use Rattle.target.specs.declared.asked_types.Asked.TheVariants as ask
use Rattle.td_base.proofs.lemmas.Beginnings.{prefix_self, prefix_trans}
use Rattle.td_base.specs.declared.no_memory.NoMemory.{NoMemory}
use Rattle.td_base.specs.Transfer.{Sends}
use Rattle.td_base.specs.Views.{ConnView}
use Rattle.td_base.specs.declared.report.Role.{Role}
use Rattle.td_base.specs.declared.transfer.Written.{Written}
use Rattle.zone_meaning.specs.Sound.{IsSound}
use Rattle.zone_meaning.specs.ZoneHistories.{ForEachZoneHistory}
use Rattle.connection.specs.Keeping.{AreAnswers, IsAnswerToKey, IsReplyNow, KeepsAnswers, KeepsNothing}
use Rattle.connection.specs.Keeping.{KeepsOneOf, RepliesTo, answer_to, head_of_key, key_of}
use Rattle.connection.specs.Sending.{SendsReply}
use Rattle.connection.proofs.TrafficLemmas.{sends_more, sends_reply}
use Rattle.connection.specs.Serving.{answer_at}
use Rattle.connection.specs.declared.kept_answers.KeptAnswers.{KeptAnswers}

-- ---- the place of what a desk holds

take_front : (xs rest : List ReleaseData) → take (length xs) (xs ++ rest) ≡ xs
take_front [] rest = refl
take_front (x ∷ xs) rest = ap (λ l. x ∷ l) (take_front xs rest)

-- the answer at the last place of a history is that over all of it, also in a longer one
pub whole_place : (seen H : List ReleaseData) (role : Role) (head : Head) (place : ℕ) → IsPrefix seen H → place ≡ length seen
    → answer_at H role place head ≡ action seen role head
whole_place seen H role head place p e =
    ap (λ l. action l role head) (ap (λ l. take place l) (sym p.1) ∙ (ap (λ n. take n (seen ++ p.0)) e ∙ take_front seen p.0))

-- ---- an answer depends on its key alone

of_asked : (H : List ReleaseData) (role : Role) (place : ℕ) (head : Head) (x : Asked)
    → answer_for H role (head_of_key (key_of place head)) x ≡ answer_for H role head x
of_asked H role place head ask.Capabilities = refl
of_asked H role place head (ask.List since) = refl
of_asked H role place head (ask.Find pattern) = refl
of_asked H role place head (ask.Get tzid start end) = refl
of_asked H role place head (ask.Expand tzid start end) = refl
of_asked H role place head ask.LeapSeconds = refl
of_asked H role place head ask.WellKnown = refl
of_asked H role place head ask.Unknown = refl

by_key : (H : List ReleaseData) (role : Role) (place : ℕ) (head : Head) → action H role (head_of_key (key_of place head)) ≡ action H role head
unfolding action
by_key H role place head = of_asked H role place head (asks head.target)

-- ---- one answer

-- what was computed over the catalogue that the desk holds
pub computed_now : (desk : DeskView (Catalogue (List ℕ))) (role : Role) (key : Key) (answer : Answer) (catalogue : Catalogue (List ℕ))
    → StandsFor (λ f. f) IsSound catalogue (history_of desk.seen) → key.place ≡ length desk.seen
    → ForEachZoneHistory catalogue (λ H. answer ≡ action H role (head_of_key key)) → IsAnswerStatus answer.status → IsAnswerToKey desk role key answer
computed_now desk role key answer catalogue stands e each status = record {
  is = λ H st.
      each (history_of desk.seen) stands
      ∙ sym (whole_place (history_of desk.seen) H role (head_of_key key) key.place st (e ∙ sym (history_length desk.seen)));
  status = status;
}

-- an answer is right over what the desk has seen itself
right_now : (desk : DeskView (Catalogue (List ℕ))) (role : Role) (key : Key) (answer : Answer) → IsAnswerToKey desk role key answer
    → answer ≡ answer_to (history_of desk.seen) role key
right_now desk role key answer x = x.is (history_of desk.seen) (prefix_self (history_of desk.seen))

pub status_if : (desk : DeskView (Catalogue (List ℕ))) (role : Role) (key : Key) (r : Result Answer NoMemory) → IfOk r (IsAnswerToKey desk role key)
    → IfOk r (λ answer. IsAnswerStatus answer.status)
status_if desk role key (Ok answer) x = x.status
status_if desk role key (Err fault) x = tt

-- in its reply it is the same answer
pub ready_if : (desk : DeskView (Catalogue (List ℕ))) (role : Role) (key : Key) (answer : Answer) (r : Result Answer NoMemory)
    → IsAnswerToKey desk role key answer → IfOk r (λ ready. ready ≡ answer) → IfOk r (IsAnswerToKey desk role key)
ready_if desk role key answer (Ok ready) x e = subst (IsAnswerToKey desk role key) (sym e) x
ready_if desk role key answer (Err fault) x e = tt

pub right_now_if : (desk : DeskView (Catalogue (List ℕ))) (role : Role) (key : Key) (r : Result Answer NoMemory)
    → IfOk r (IsAnswerToKey desk role key) → IfOk r (λ answer. answer ≡ answer_to (history_of desk.seen) role key)
right_now_if desk role key (Ok answer) x = right_now desk role key answer x
right_now_if desk role key (Err fault) x = tt

-- ---- the reply to one request

-- with the answer to its key
pub sent_now : (desk : DeskView (Catalogue (List ℕ))) (role : Role) (key : Key) (head_only close : Bool) (answer : Answer)
    → IsAnswerToKey desk role key answer → (a b : ConnView) (written : Written) → Sends a b (reply answer head_only close) written
    → SendsReply (RepliesTo desk role key head_only close) a b written
sent_now desk role key head_only close answer x a b written s =
    sends_reply (RepliesTo desk role key head_only close) a b (reply answer head_only close) written s
    (record { answer = answer; right = x; is = refl })

pub sent_with : (desk : DeskView (Catalogue (List ℕ))) (role : Role) (key : Key) (head_only close : Bool) (answer : Answer)
    → IsAnswerToKey desk role key answer → (a b : ConnView) (r : Result Written NoMemory) → IfOk r (Sends a b (reply answer head_only close))
    → IfOk r (SendsReply (RepliesTo desk role key head_only close) a b)
sent_with desk role key head_only close answer x a b (Ok written) s = sent_now desk role key head_only close answer x a b written s
sent_with desk role key head_only close answer x a b (Err fault) s = tt

-- the key of a request
module _ (desk : DeskView (Catalogue (List ℕ))) (role : Role) (head : Head) (place : ℕ) (key : Key) (e : place ≡ length desk.seen)
    (k : key ≡ key_of place head) where
  key_now : key ≡ key_of (length desk.seen) head
  key_now = k ∙ ap (λ n. key_of n head) e

  replied : (close : Bool) (bytes : List ℕ) → RepliesTo desk role key head.head_only close bytes → IsReplyNow desk role head close bytes
  replied close bytes r =
      let x : IsAnswerToKey desk role (key_of (length desk.seen) head) r.answer = subst (λ o. IsAnswerToKey desk role o r.answer) key_now r.right in
      λ H st.
      r.is ∙ ap (λ a. reply a head.head_only close) (x.is H st ∙ by_key (take (length desk.seen) H) role (length desk.seen) head)

  pub replied_if : (close : Bool) (a b : ConnView) (r : Result Written NoMemory) → IfOk r (SendsReply (RepliesTo desk role key head.head_only close) a b)
      → IfOk r (SendsReply (IsReplyNow desk role head close) a b)
  replied_if close a b (Ok written) s = sends_more (RepliesTo desk role key head.head_only close) (IsReplyNow desk role head close) (replied close) a b written s
  replied_if close a b (Err fault) s = tt

-- ---- all that is kept

grown_in : (desk later : DeskView (Catalogue (List ℕ))) (role : Role) (pairs : List (Key × Answer)) → IsPrefix desk.seen later.seen
    → AreAnswers desk role pairs → AreAnswers later role pairs
grown_in desk later role pairs more all = λ key answer kept. record {
  is = λ H st.
      (all key answer kept).is H (prefix_trans (history_of desk.seen) (history_of later.seen) H (history_longer desk.seen later.seen more) st);
  status = (all key answer kept).status;
}

-- the desk has seen more
pub grown : (desk later : DeskView (Catalogue (List ℕ))) (role : Role) (k : KeptAnswers) → IsPrefix desk.seen later.seen → KeepsAnswers desk role k
    → KeepsAnswers later role k
grown desk later role k more x = record {
  many = grown_in desk later role k.many.kept more x.many;
  large = grown_in desk later role k.large.kept more x.large;
}

fewer_in : (desk : DeskView (Catalogue (List ℕ))) (role : Role) (before now : List (Key × Answer)) → AddsNone before now
    → AreAnswers desk role before → AreAnswers desk role now
fewer_in desk role before now adds all = λ key answer kept. all key answer (adds key answer kept)

-- nothing else is kept
pub fewer : (desk : DeskView (Catalogue (List ℕ))) (role : Role) (before now : KeptAnswers) → AddsNone before.many.kept now.many.kept
    → AddsNone before.large.kept now.large.kept → KeepsAnswers desk role before → KeepsAnswers desk role now
fewer desk role before now many large x = record {
  many = fewer_in desk role before.many.kept now.many.kept many x.many;
  large = fewer_in desk role before.large.kept now.large.kept large x.large;
}

added_in : (desk : DeskView (Catalogue (List ℕ))) (role : Role) (before now : List (Key × Answer)) (key : Key) (answer : Answer)
    → AddsOne before now key answer → IsAnswerToKey desk role key answer → AreAnswers desk role before → AreAnswers desk role now
added_in desk role before now key answer adds x all = λ other kept keeps. elim (adds other kept keeps) [
  | inl was ↦ all other kept was
  | inr is ↦ subst (λ k. IsAnswerToKey desk role k kept) (sym is.0) (subst (λ a. IsAnswerToKey desk role key a) (sym is.1) x)
]

-- one more answer is kept
pub added : (desk : DeskView (Catalogue (List ℕ))) (role : Role) (before now : KeptAnswers) (key : Key) (answer : Answer)
    → KeepsOneOf before now key answer → IsAnswerToKey desk role key answer → KeepsAnswers desk role before → KeepsAnswers desk role now
added desk role before now key answer adds x all = record {
  many = added_in desk role before.many.kept now.many.kept key answer adds.many x all.many;
  large = added_in desk role before.large.kept now.large.kept key answer adds.large x all.large;
}

none_in : (desk : DeskView (Catalogue (List ℕ))) (role : Role) (pairs : List (Key × Answer)) → pairs ≡ [] → AreAnswers desk role pairs
none_in desk role pairs none = λ key answer kept.
    let within = (subst (λ l. Contains l (key, answer)) none kept).1 in absurd (omega (arith, within))

-- where nothing is kept, nothing wrong is
pub none : (desk : DeskView (Catalogue (List ℕ))) (role : Role) (k : KeptAnswers) → KeepsNothing k → KeepsAnswers desk role k
none desk role k x = record { many = none_in desk role k.many.kept x.many; large = none_in desk role k.large.kept x.large }
