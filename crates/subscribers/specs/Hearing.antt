-- What becomes of a history and of those who hear of it, event by event.
use Rattle.std.specs.Prelude.{◌≡◌, ℕ, ◌==◌, List, [], ◌∷◌, ◌++◌, length, map, IfSome}
use Rattle.std.specs.Prelude.{if◌then◌else◌}
use Rattle.std.specs.Option.{option_map_or}
use Rattle.catalogue.specs.Releases.{ReleaseData}
use Rattle.subscribers.specs.News.{news, notice_at, numbered_from}
use Rattle.subscribers.specs.Views.{SubscriberView, changed_numbered, emptied, newcomer}
use Rattle.subscribers.specs.Views.{with_notice}
use Rattle.subscribers.specs.declared.notice.Notice.{Notice}
use Rattle.subscribers.specs.declared.wish.Wish.{Wish}

-- each subscriber holds what its wish takes of the last place of a history, too
abbrev pub all_hear : List ReleaseData → List SubscriberView → List SubscriberView
all_hear H subscribers = map (λ s. with_notice (notice_at H s.wish (length H)) s) subscribers

-- A history and its subscribers at one moment.
pub record Audience : Type 0 where
  pub history : List ReleaseData
  pub subscribers : List SubscriberView

-- What may come about: one subscribes, a release joins the history, a call is refused, or what the
-- subscriber of a number holds is cleared.
pub data Event : Type 0 where
  Subscribes : Wish → Event
  Grows : ReleaseData → Event
  IsRefused : Event
  Clears : ℕ → Event

-- what it leaves
abbrev pub audience_after : Audience → Event → Audience
audience_after a (Event.Subscribes wish) = record {
  history = a.history;
  subscribers = a.subscribers ++ newcomer wish (length a.history) ∷ [];
}
audience_after a (Event.Grows r) = record {
  history = a.history ++ r ∷ [];
  subscribers = all_hear (a.history ++ r ∷ []) a.subscribers;
}
audience_after a Event.IsRefused = a
audience_after a (Event.Clears number) = record {
  history = a.history;
  subscribers = changed_numbered emptied number a.subscribers;
}

abbrev pub after_all : Audience → List Event → Audience
after_all a [] = a
after_all a (e ∷ es) = after_all (audience_after a e) es

-- the notices that an event clears for the subscriber of a number
abbrev pub cleared_by : ℕ → Audience → Event → List Notice
cleared_by number a (Event.Clears other) =
    if number == other then option_map_or (λ s. s.held) (numbered_from a.subscribers number) []
    else []
cleared_by number a e = []

-- those that several events clear, one event after another
abbrev pub cleared_by_all : ℕ → Audience → List Event → List Notice
cleared_by_all number a [] = []
cleared_by_all number a (e ∷ es) =
    cleared_by number a e ++ cleared_by_all number (audience_after a e) es

-- whatever comes about where at first nobody has subscribed: what was cleared for a subscriber,
-- followed by what it holds, is what it is owed
abbrev pub HearsEachChangeOnce : List ReleaseData → List Event → ℕ → Type 0
HearsEachChangeOnce H events number =
    IfSome (numbered_from (after_all (record { history = H; subscribers = [] }) events).subscribers
    number)
    (λ s. cleared_by_all number (record { history = H; subscribers = [] }) events ++ s.held
    ≡ news (after_all (record { history = H; subscribers = [] }) events).history s.from s.wish)
