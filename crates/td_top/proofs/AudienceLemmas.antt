-- What the lines that ask for news of installs make of a talk.
use Rattle.std.proofs.Common.{◌≡◌, ℕ, zero, suc, ◌+◌, ◌<◌, ◌≤◌, List, [], ◌∷◌, ◌++◌, length, Option, None, Some, inl, inr, ◌⊎◌, refl, sym, subst, ap, ◌∙◌}
use Rattle.std.proofs.Common.{arith}
use Rattle.std.proofs.lemmas.Bool.{cases_lt, eq-eqb}
use Rattle.std.specs.Option.{IsSome, option_map, option_map_or}
use Rattle.std.proofs.lemmas.List.{length_push}
use Rattle.std.proofs.lemmas.Option.{slice_get_within}
use mathlib.Core.List.{IsPrefix}
use Rattle.td_base.proofs.lemmas.Beginnings.{prefix_length, prefix_self}
use Rattle.catalogue.specs.Holdings.{history_of}
use Rattle.catalogue.proofs.lemmas.HistoryLemmas.{history_length}
use Rattle.console.specs.Replies.{news_text, reply_text}
use Rattle.console.specs.declared.line.Line.{Line}
use Rattle.console.specs.declared.line.Line.TheVariants as line
use Rattle.console.specs.declared.said.Said.TheVariants as said
use Rattle.installer.specs.Views.{with_subscribers}
use Rattle.subscribers.specs.FaultText.{fault_text}
use Rattle.subscribers.specs.Hearing.{Audience, Event, audience_after}
use Rattle.subscribers.specs.News.{numbered_from}
use Rattle.subscribers.specs.Views.{SubscriberView, changed_numbered, emptied, newcomer}
use Rattle.subscribers.specs.declared.subscribe_fault.SubscribeFault.TheVariants as fault
use Rattle.subscribers.specs.declared.subscriber_list.TheConstants.{MOST_SUBSCRIBERS}
use Rattle.subscribers.specs.declared.wish.Wish.{Wish}
use Rattle.run_ends.specs.Feeds.{FeedView}
use Rattle.td_top.specs.Replies.{SaysWhy}
use Rattle.run_ends.specs.Replies.{nobody_text}
use Rattle.run_ends.specs.Sessions.{AnswersLine, LaterSession}
use Rattle.run_ends.specs.Operator.{ChangesHearing, TakesMemory, audience, changed, no_memory}
use Rattle.run_ends.specs.declared.session.Session.{Session}
use Rattle.td_top.proofs.lemmas.FeedLemmas.{feed_refl}
use Rattle.run_ends.proofs.lemmas.SessionLemmas.{session_refl}
use Rattle.td_top.proofs.LineLemmas.{stays, tells_on}

-- ---- sessions

-- one in which all but who hears of installs is the same
pub hears_later : (old new : Session) (subscribers : List SubscriberView) → new.installer ≡ with_subscribers subscribers old.installer → new.desk ≡ old.desk
    → LaterSession old new
hears_later old new subscribers is desk = record {
  installer = ap (λ i. i.pair) is;
  desk = ap (λ d. d.pair) desk;
  published = subst (λ list. IsPrefix old.installer.list list) (sym (ap (λ i. i.list) is)) (prefix_self old.installer.list);
  seen = subst (λ d. IsPrefix old.desk.seen d.seen) (sym desk) (prefix_self old.desk.seen);
}

left_later : (old new : Session) → new.installer ≡ old.installer → new.desk ≡ old.desk → LaterSession old new
left_later old new is desk = hears_later old new old.installer.subscribers is desk

-- ---- lines that change nothing but who hears of installs

-- a session as it is to those who hear
abbrev heard_at : Session → Audience
heard_at a = record { history = history_of a.installer.list; subscribers = a.installer.subscribers }

pub hears : (g : FeedView) (old new : Session) (asked : Line) (answer : List ℕ) (event : Event) → LaterSession old new
    → new.installer.list ≡ old.installer.list → (audience_after (heard_at old) event).history ≡ history_of old.installer.list
    → new.installer.subscribers ≡ (audience_after (heard_at old) event).subscribers → ChangesHearing (heard_at old) asked answer event
    → AnswersLine g g old new asked answer
unfolding AnswersLine
hears g old new asked answer event later same history subscribers changes = record {
  feed = feed_refl g;
  later = later;
  answers = λ whole talk begins stands.
      let at : heard_at old ≡ audience talk = rw (stands.published, stands.subscribers) refl in (
        record talk { subscribers = (audience_after (audience talk) event).subscribers },
        record {
          published = stands.published ∙ ap history_of (sym same);
          least = omega (arith, stands.least, prefix_length old.desk.seen new.desk.seen later.seen);
          feed = stands.feed;
          subscribers = ap (λ a. (audience_after a event).subscribers) (sym at) ∙ sym subscribers;
        },
        changed event (subst (λ a. ChangesHearing a asked answer event) at changes)
            (ap (λ a. (audience_after a event).history) (sym at) ∙ history ∙ sym stands.published) refl,
      );
}

-- ---- a watch

fewer : (n m : ℕ) → (m ≤ n → ⊥) → n < m
fewer n m few = by_cases (cases_lt n m)
  where
    by_cases : (n < m) ⊎ (m ≤ n) → n < m
    by_cases (inl less) = less
    by_cases (inr many) = absurd (few many)

pub is_watched : (g : FeedView) (old new : Session) (wish : Wish) (number : ℕ) (answer : List ℕ)
    → new.installer ≡ with_subscribers (old.installer.subscribers ++ newcomer wish (length old.installer.list) ∷ []) old.installer → new.desk ≡ old.desk
    → number ≡ length new.installer.subscribers → (MOST_SUBSCRIBERS ≤ length old.installer.subscribers → ⊥) → answer ≡ reply_text (said.Watching number)
    → AnswersLine g g old new (line.Watch wish) answer
is_watched g old new wish number answer is desk count few says =
    let before : List SubscriberView = old.installer.subscribers in
    let counted : number ≡ length before + 1 = count ∙ ap (λ i. length i.subscribers) is ∙ length_push before (newcomer wish (length old.installer.list)) in
    hears g old new (line.Watch wish) answer (Event.Subscribes wish) (hears_later old new _ is desk) (ap (λ i. i.list) is) refl
    (ap (λ i. i.subscribers) is ∙ ap (λ n. before ++ newcomer wish n ∷ []) (sym (history_length old.installer.list)))
    (refl, fewer (length before) MOST_SUBSCRIBERS few, says ∙ ap (λ n. reply_text (said.Watching n)) counted)

-- a line for which memory ran out leaves all as it was
pub is_starved : (g : FeedView) (old new : Session) (asked : Line) (answer : List ℕ) → new.installer ≡ old.installer → new.desk ≡ old.desk
    → TakesMemory asked → answer ≡ reply_text said.NoMemory → AnswersLine g g old new asked answer
is_starved g old new asked answer same desk takes says =
    stays g old new asked answer (left_later old new same desk) same (λ whole talk at. no_memory takes says refl)

pub is_full : (g : FeedView) (old new : Session) (wish : Wish) (answer : List ℕ) → new.installer ≡ old.installer → new.desk ≡ old.desk
    → MOST_SUBSCRIBERS ≤ length old.installer.subscribers → SaysWhy (fault_text fault.WatchFull) answer → AnswersLine g g old new (line.Watch wish) answer
is_full g old new wish answer same desk many (inl none) = is_starved g old new (line.Watch wish) answer same desk tt none
is_full g old new wish answer same desk many (inr says) =
    tells_on g old new (line.Watch wish) answer (left_later old new same desk) same
    (λ whole talk at. (subst (λ s. MOST_SUBSCRIBERS ≤ length s) (sym at.subscribers) many, refl, says))

-- ---- news

-- a number under which something was found
held_by : (o : Option SubscriberView) (text : List ℕ) → Some text ≡ option_map (λ s. news_text s.held) o
    → IsSome o × (text ≡ news_text (option_map_or (λ s. s.held) o []))
held_by None text e = absurd (cc e)
held_by (Some s) text e = (refl, cc e)

none_by : (o : Option SubscriberView) → None ≡ option_map (λ s. news_text s.held) o → o ≡ None
none_by None e = refl
none_by (Some s) e = absurd (cc e)

there : (xs : List SubscriberView) (k : ℕ) (o : Option SubscriberView) → numbered_from xs k ≡ o → IsSome o → (0 < k) × (k ≤ length xs)
there xs k None e some = absurd (cc some)
there xs zero (Some s) e some = absurd (cc e)
there xs (suc i) (Some s) e some = (omega arith, omega (arith, slice_get_within xs i s e))

pub has_number : (xs : List SubscriberView) (k : ℕ) (text : List ℕ) → Some text ≡ option_map (λ s. news_text s.held) (numbered_from xs k)
    → (0 < k) × (k ≤ length xs)
has_number xs k text e = there xs k (numbered_from xs k) refl (held_by (numbered_from xs k) text e).0

pub is_told : (g : FeedView) (old new : Session) (number : ℕ) (text answer : List ℕ)
    → new.installer ≡ with_subscribers (changed_numbered emptied number old.installer.subscribers) old.installer → new.desk ≡ old.desk
    → Some text ≡ option_map (λ s. news_text s.held) (numbered_from old.installer.subscribers number) → answer ≡ text
    → AnswersLine g g old new (line.News number) answer
is_told g old new number text answer is desk holds says =
    let found = held_by (numbered_from old.installer.subscribers number) text holds in
    hears g old new (line.News number) answer (Event.Clears number) (hears_later old new _ is desk) (ap (λ i. i.list) is) refl (ap (λ i. i.subscribers) is)
    (refl, found.0, says ∙ found.1 ∙ rw (eq-eqb number number refl) refl)

pub is_of_nobody : (g : FeedView) (a : Session) (number : ℕ) (answer : List ℕ)
    → None ≡ option_map (λ s. news_text s.held) (numbered_from a.installer.subscribers number) → SaysWhy nobody_text answer
    → AnswersLine g g a a (line.News number) answer
is_of_nobody g a number answer none (inl starved) = is_starved g a a (line.News number) answer refl refl tt starved
is_of_nobody g a number answer none (inr says) =
    tells_on g a a (line.News number) answer (session_refl a) refl
    (λ whole talk at. (ap (λ s. numbered_from s number) at.subscribers ∙ none_by (numbered_from a.installer.subscribers number) none, refl, says))
