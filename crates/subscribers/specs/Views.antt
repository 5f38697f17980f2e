-- What clauses see of subscribers.
use Rattle.std.specs.Prelude.{◌≡◌, ℕ, List, [], ◌∷◌, ◌++◌, map, Option, None, Some}
use Rattle.std.specs.Prelude.{zero, suc}
use Rattle.admission.specs.declared.delta.Delta.{Delta}
use Rattle.subscribers.specs.News.{notice_of}
use Rattle.subscribers.specs.declared.notice.Notice.{Notice}
use Rattle.subscribers.specs.declared.wish.Wish.{Wish}

-- A subscriber: what it wants to hear of, how many releases were published when it began, and the
-- notices that were not cleared, the earliest first.
pub record SubscriberView : Type 0 where
  pub wish : Wish
  pub from : ℕ
  pub held : List Notice

-- A subscriber, and the notice that is prepared for it, if there is one.
pub record PreparedView : Type 0 where
  pub subscriber : SubscriberView
  pub next : Option Notice

-- the subscribers by themselves
abbrev pub subscribers_of : List PreparedView → List SubscriberView
subscribers_of all = map (λ p. p.subscriber) all

-- one that has just subscribed
abbrev pub newcomer : Wish → ℕ → SubscriberView
newcomer wish place = record { wish = wish; from = place; held = [] }

-- with the notice of what the release at a place changes, if the wish takes any of it
abbrev pub prepared : ℕ → Delta → PreparedView → PreparedView
prepared place delta p =
    record { subscriber = p.subscriber; next = notice_of p.subscriber.wish place delta }

-- notices with one more at their end, if there is one
abbrev pub and_then : List Notice → Option Notice → List Notice
and_then held None = held
and_then held (Some notice) = held ++ notice ∷ []

-- a subscriber that holds this notice, too
abbrev pub with_notice : Option Notice → SubscriberView → SubscriberView
with_notice notice s = record { wish = s.wish; from = s.from; held = and_then s.held notice }

-- with what was prepared held, and nothing prepared
abbrev pub committed : PreparedView → PreparedView
committed p = record { subscriber = with_notice p.next p.subscriber; next = None }

-- with nothing prepared
abbrev pub given_up : PreparedView → PreparedView
given_up p = record { subscriber = p.subscriber; next = None }

-- nothing is prepared: to give it up changes nothing
abbrev pub IsIdle : List PreparedView → Type 0
IsIdle all = map given_up all ≡ all

-- with nothing held
abbrev pub emptied : SubscriberView → SubscriberView
emptied s = record { wish = s.wish; from = s.from; held = [] }

abbrev pub emptied_beside : PreparedView → PreparedView
emptied_beside p = record { subscriber = emptied p.subscriber; next = p.next }

-- the item at a position, counted from 0, is changed
abbrev pub changed_at : {A : Type 0} → (A → A) → ℕ → List A → List A
changed_at f i [] = []
changed_at f zero (x ∷ xs) = f x ∷ xs
changed_at f (suc i) (x ∷ xs) = x ∷ changed_at f i xs

-- the item of a number, counted from 1, is changed; there is none of number 0
abbrev pub changed_numbered : {A : Type 0} → (A → A) → ℕ → List A → List A
changed_numbered f zero xs = xs
changed_numbered f (suc i) xs = changed_at f i xs
