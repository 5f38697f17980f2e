-- Which changes of zones a wish takes, and which kinds of wishes have a test.
use Rattle.std.specs.Prelude.{◌≡◌, ℤ, int_lt, List, Bool, true, false, nat_eq, Option, None, Some}
use Rattle.std.specs.List.{list_any, starts_with}
use Rattle.td_civil.specs.declared.moment_type.Moment.{Moment}
use Rattle.admission.specs.declared.delta.Changed.{Changed}
use Rattle.subscribers.specs.declared.wish.Wish.{Wish}
use Rattle.subscribers.specs.declared.wish.WishKind.{WishKind}
use Rattle.subscribers.specs.declared.wish.WishKind.TheVariants as kind

-- a change that begins at this moment, if at any, begins before t
abbrev pub is_before : ℤ → Option Moment → Bool
is_before t None = false
is_before t (Some m) = int_lt m.seconds t

-- every change, one of a zone whose identifier begins with these bytes, or one that begins before
-- the moment
abbrev pub takes_by : WishKind → Changed → Wish → Bool
takes_by kind.Any change wish = true
takes_by kind.Under change wish = starts_with nat_eq change.tzid wish.under
takes_by kind.Past change wish = is_before wish.before.seconds change.first

abbrev pub takes : Wish → Changed → Bool
takes wish change = takes_by wish.kind change wish

-- whether two kinds are one
abbrev pub same_wish_kind : WishKind → WishKind → Bool
same_wish_kind kind.Any kind.Any = true
same_wish_kind kind.Under kind.Under = true
same_wish_kind kind.Past kind.Past = true
same_wish_kind one two = false

-- whether a kind is one of these
abbrev pub is_wanted : List WishKind → WishKind → Bool
is_wanted kinds kind = list_any (same_wish_kind kind) kinds

-- each kind is one of these
abbrev pub WantsAll : List WishKind → Type 0
WantsAll kinds = (kind : WishKind) → is_wanted kinds kind ≡ true
