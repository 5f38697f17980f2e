-- What a subscriber is owed: a function of the history, the place at which it began, and its wish.
use Rattle.std.specs.Prelude.{ℕ, ◌+◌, ◌-◌, List, [], ◌∷◌, length, take, map, Option, None}
use Rattle.std.specs.Prelude.{Some, zero, suc}
use Rattle.std.specs.List.{filter, filter_map, range_with_len, slice_get}
use Rattle.std.specs.Option.{option_and_then}
use Rattle.catalogue.specs.Releases.{ReleaseData}
use Rattle.admission.specs.Differences.{difference}
use Rattle.admission.specs.declared.delta.Changed.{Changed}
use Rattle.admission.specs.declared.delta.Delta.{Delta}
use Rattle.subscribers.specs.Wishes.{takes}
use Rattle.subscribers.specs.declared.notice.Notice.{Notice}
use Rattle.subscribers.specs.declared.wish.Wish.{Wish}

-- the item of a number, counted from 1
abbrev pub numbered_from : {A : Type 0} → List A → ℕ → Option A
numbered_from xs zero = None
numbered_from xs (suc i) = slice_get xs i

-- the identifiers of those changed zones that a wish takes, in their order
abbrev pub taken_from : Wish → List Changed → List (List ℕ)
taken_from wish changed = map (λ c. c.tzid) (filter (takes wish) changed)

-- the notice of a place, if it names a zone
abbrev pub notice_if_any : ℕ → List (List ℕ) → Option Notice
notice_if_any place [] = None
notice_if_any place (t ∷ ts) = Some (record { place = place; tzids = t ∷ ts })

-- what a wish takes of what the release at a place changes
abbrev pub notice_of : Wish → ℕ → Delta → Option Notice
notice_of wish place delta = notice_if_any place (taken_from wish delta.changed)

-- the same of a history, by the release at the place and those before it
abbrev pub notice_at : List ReleaseData → Wish → ℕ → Option Notice
notice_at H wish k =
    option_and_then (λ r. notice_of wish k (difference (take (k - 1) H) r)) (numbered_from H k)

-- for each place after the one at which the subscriber began, in their order, the place and the
-- changed zones that its wish takes; a place without one is left out
unfoldable pub news : List ReleaseData → ℕ → Wish → List Notice
news H from wish = filter_map (notice_at H wish) (range_with_len (from + 1) (length H - from))
