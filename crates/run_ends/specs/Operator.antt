-- What an operator's lines get said, one after the other, while a history grows by what they ask
-- for.
use Rattle.std.specs.Prelude.{◌≡◌, ◌≢◌, ℕ, ◌+◌, ◌<◌, ◌≤◌, List, [], ◌∷◌, ◌++◌, length, ⊤, Bool}
use Rattle.std.specs.Prelude.{true, false, Option, None, Some}
use Rattle.std.specs.List.{AllByRecursion}
use Rattle.std.specs.Option.{IsSome}
use mathlib.Core.List.{IsPrefix}
use Rattle.catalogue.specs.Histories.{meta}
use Rattle.catalogue.specs.Releases.{ReleaseData}
use Rattle.console.specs.Lines.{HasWishText}
use Rattle.console.specs.declared.line.Line.{Line}
use Rattle.console.specs.declared.line.Line.TheVariants as line
use Rattle.console.specs.Replies.{news_text, reply_text}
use Rattle.console.specs.declared.said.Said.TheVariants as said
use Rattle.subscribers.specs.FaultText.{fault_text}
use Rattle.subscribers.specs.Hearing.{Audience, Event, audience_after, all_hear, cleared_by}
use Rattle.subscribers.specs.News.{numbered_from}
use Rattle.subscribers.specs.Views.{SubscriberView}
use Rattle.subscribers.specs.declared.subscribe_fault.SubscribeFault.TheVariants as fault
use Rattle.subscribers.specs.declared.subscriber_list.TheConstants.{MOST_SUBSCRIBERS}
use Rattle.subscribers.specs.declared.wish.Wish.{Wish}
use Rattle.run_ends.specs.Feeds.{FeedView, Grows, Handles}
use Rattle.run_ends.specs.Replies.{last_token, nobody_text}

-- a talk so far: the releases published, the least place that a status may tell, by what the
-- history grows, and who hears of installs
pub record Talk : Type 0 where
  pub published : List ReleaseData
  pub least : ℕ
  pub feed : FeedView
  pub subscribers : List SubscriberView

-- the releases published in a talk, and who hears of them
abbrev pub audience : Talk → Audience
audience t = record { history = t.published; subscribers = t.subscribers }

-- the server is ready, over these releases, and nobody has subscribed
abbrev pub talk_begun : List ReleaseData → FeedView → Talk
talk_begun H feed =
    record { published = H; least = length H; feed = feed; subscribers = [] }

-- releases that were joined by one more, or by none
abbrev pub with_joined : List ReleaseData → Option ReleaseData → List ReleaseData
with_joined H None = H
with_joined H (Some r) = H ++ r ∷ []

-- the least place after that: a release that joined is shown from then on
abbrev pub least_after : Talk → Option ReleaseData → ℕ
least_after t None = t.least
least_after t (Some r) = length t.published + 1

-- what those who hear of installs hold after that: a release that joined is heard of
abbrev pub heard_by : List SubscriberView → List ReleaseData → Option ReleaseData
    → List SubscriberView
heard_by subscribers H None = subscribers
heard_by subscribers H (Some r) = all_hear (H ++ r ∷ []) subscribers

-- a line made the history grow by a release, or by none
abbrev pub grown : Talk → Option ReleaseData → FeedView → Talk
grown t joined feed = record {
  published = with_joined t.published joined;
  least = least_after t joined;
  feed = feed;
  subscribers = heard_by t.subscribers t.published joined;
}

-- a line that the talk does not do itself, so that the feed is asked for it
abbrev pub IsForFeed : Line → Type 0
IsForFeed asked =
    (asked ≢ line.Status) × (asked ≢ line.Quit) × ((wish : Wish) → asked ≢ line.Watch wish)
    × ((number : ℕ) → asked ≢ line.News number)

-- a line for which memory may run out before it is done, be it for its text alone
abbrev pub TakesMemory : Line → Type 0
TakesMemory line.Status = ⊤
TakesMemory (line.Watch wish) = ⊤
TakesMemory (line.News number) = ⊤
TakesMemory asked = HasWishText asked

-- What a line gets said that changes neither the history nor who hears of it, and the least place
-- that a status may tell after it. A status shows a place that is not before the last release
-- installed, nor before one shown earlier; `whole` is the history of the run, with which it has its
-- releases in common.
abbrev pub TellsOnly : List ReleaseData → Talk → Line → List ℕ → ℕ → Type 0
TellsOnly whole t line.Status answer least =
    (shown : List ReleaseData) × IsPrefix shown whole × (t.least ≤ length shown)
    × (least ≡ length shown)
    × (answer ≡ reply_text (said.Serving (last_token shown) (length (meta shown))))
TellsOnly whole t (line.Watch wish) answer least =
    (MOST_SUBSCRIBERS ≤ length t.subscribers) × (least ≡ t.least)
    × (answer ≡ reply_text (said.Refused (fault_text fault.WatchFull)))
TellsOnly whole t (line.News number) answer least =
    (numbered_from t.subscribers number ≡ None) × (least ≡ t.least)
    × (answer ≡ reply_text (said.Refused nobody_text))
TellsOnly whole t line.Quit answer least = (least ≡ t.least) × (answer ≡ reply_text said.Bye)
TellsOnly whole t asked answer least = ⊥

-- what a line gets said that changes who hears of installs and nothing else, and what it is to them
abbrev pub ChangesHearing : Audience → Line → List ℕ → Event → Type 0
-- one more subscriber, which is to hear of the releases after those published so far
ChangesHearing a (line.Watch wish) answer event =
    (event ≡ Event.Subscribes wish) × (length a.subscribers < MOST_SUBSCRIBERS)
    × (answer ≡ reply_text (said.Watching (length a.subscribers + 1)))
-- what a subscriber holds is told, and cleared
ChangesHearing a (line.News number) answer event =
    (event ≡ Event.Clears number) × IsSome (numbered_from a.subscribers number)
    × (answer ≡ news_text (cleared_by number a event))
ChangesHearing a asked answer event = ⊥

-- what one line gets said, and what it makes of the talk
pub data GetsAnswer (whole : List ReleaseData) (t : Talk) (asked : Line) (answer : List ℕ)
    (u : Talk) : Type 0 where
  handled : (joined : Option ReleaseData) (feed : FeedView)
      → Handles t.published t.feed asked answer joined feed → u ≡ grown t joined feed
      → GetsAnswer whole t asked answer u
  -- it is this to those who hear, and the history is as it was
  changed : (event : Event) → ChangesHearing (audience t) asked answer event
      → (audience_after (audience t) event).history ≡ t.published
      → u ≡ record t { subscribers = (audience_after (audience t) event).subscribers }
      → GetsAnswer whole t asked answer u
  only_told : (least : ℕ) → TellsOnly whole t asked answer least → u ≡ record t { least = least }
      → GetsAnswer whole t asked answer u
  unknown : IsForFeed asked → (Grows t.feed asked → ⊥) → answer ≡ reply_text said.Unknown
      → u ≡ t → GetsAnswer whole t asked answer u
  -- memory ran out, and nothing was done
  no_memory : TakesMemory asked → answer ≡ reply_text said.NoMemory → u ≡ t
      → GetsAnswer whole t asked answer u

-- a line that asks that the talk end
abbrev pub is_quit : Line → Bool
is_quit line.Quit = true
is_quit asked = false

-- a line after which the talk goes on
abbrev pub KeepsTalking : Line → Type 0
KeepsTalking asked = is_quit asked ≡ false

-- the lines one after the other, each with what it gets said; nothing follows the line that ends it
pub data Talks (whole : List ReleaseData) : Talk → List Line → List (List ℕ) → Talk → Type 0 where
  none : (t : Talk) → Talks whole t [] [] t
  more : (t u v : Talk) (asked : List Line) (told : List (List ℕ)) (next : Line)
      (answer : List ℕ)
      → Talks whole t asked told u → AllByRecursion KeepsTalking asked
      → GetsAnswer whole u next answer v
      → Talks whole t (asked ++ next ∷ []) (told ++ answer ∷ []) v
