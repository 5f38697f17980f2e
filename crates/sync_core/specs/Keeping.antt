-- How a mirror keeps what it holds: words of its inner functions.
use Rattle.std.specs.Prelude.{ℕ, List, [], ◌∷◌, map, Bool, Option, None, Some, int_le}
use Rattle.std.specs.Prelude.{if◌then◌else◌}
use Rattle.std.specs.List.{list_any}
use Rattle.std.specs.Ordering.{nat_cmp}
use Rattle.std.specs.declared.cmp.Ordering.{Ordering}
use Rattle.std.specs.declared.cmp.Ordering.TheVariants.{Less, Greater}
use Rattle.std.specs.Cmp.Lexicographic.{slice_cmp}
use Rattle.std.specs.Str.{bytes_eq}
use Rattle.json_forms.specs.declared.zone_list.ListZone.{ListZone}

-- zones with their identifiers
abbrev pub by_name : List ListZone → List (List ℕ × ListZone)
by_name zones = map (λ z. (z.tzid, z)) zones

-- whether a name is among the names
unfoldable pub has_listed_name : List (List ℕ) → List ℕ → Bool
has_listed_name names name = list_any (bytes_eq name) names

-- which of two rising lists has the zone that comes first; where one has none, the other does
abbrev pub order_of : List ListZone → List ListZone → Ordering
order_of [] bs = Greater
order_of (a ∷ rest) [] = Less
order_of (a ∷ rest) (b ∷ bs) = slice_cmp nat_cmp a.tzid b.tzid

-- the second zone where the first is missing or has an earlier stamp
abbrev pub later_of : Option ListZone → ListZone → ListZone
later_of None z = z
later_of (Some y) z = if int_le z.stamp.seconds y.stamp.seconds then y else z
