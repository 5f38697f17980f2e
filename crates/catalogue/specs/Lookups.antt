-- What is looked up in a history: zones by their names, places by their tokens, and what changed
-- after a place.
use Rattle.std.specs.Prelude.{ℕ, List, [], ◌∷◌, Bool, Option, None, Some}
use Rattle.std.specs.Prelude.{length, nat_lt}
use Rattle.std.specs.List.{filter, find, list_any, position_from}
use Rattle.std.specs.Str.{bytes_eq}
use Rattle.change_index.specs.Positions.{positions}
use Rattle.catalogue.specs.Releases.{ContentData, ReleaseData}
use Rattle.catalogue.specs.Histories.{EntryData, kept_places, last_release, meta, token_of}

-- whether a name is the zone's identifier or one of its aliases
abbrev pub is_name_of : List ℕ → ContentData → Bool
is_name_of name c = list_any (bytes_eq name) (c.tzid ∷ c.aliases)

-- the zone that has the name
abbrev pub named : List ContentData → List ℕ → Option ContentData
named cs name = find (is_name_of name) cs

-- the zone with this identifier
abbrev pub zone_at : List ContentData → List ℕ → Option ContentData
zone_at cs tzid = find (λ c. bytes_eq tzid c.tzid) cs

abbrev pub contents_of : Option ReleaseData → List ContentData
contents_of None = []
contents_of (Some r) = r.contents

-- the zones of the last release
abbrev pub zones_of : List ReleaseData → List ContentData
zones_of H = contents_of (last_release H)

-- the position of the zone that has the name, counted from 0
unfoldable pub place_named : List ReleaseData → List ℕ → Option ℕ
place_named H name = position_from (λ e. is_name_of name e.content) 0 (meta H)

-- the one of the last places whose token this is
unfoldable pub place_of : List ReleaseData → List ℕ → Option ℕ
place_of H text = find (λ n. bytes_eq (token_of H n) text) (kept_places (length H))

-- the entries whose content last changed after a place
unfoldable pub delta : List ReleaseData → ℕ → List EntryData
delta H n = filter (λ e. nat_lt n e.changed) (meta H)

-- their positions, counted from 0
unfoldable pub places_changed : List ReleaseData → ℕ → List ℕ
places_changed H n = positions (λ e. nat_lt n e.changed) 0 (meta H)
