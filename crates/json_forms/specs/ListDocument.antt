-- The list of time zones (RFC 7808, section 6.2) as JSON. The members of each object are in rising
-- order of name.
use Rattle.std.specs.Prelude.{ℕ, List, [], ◌∷◌, map, codes}
use Rattle.serde_json.specs.Data.{Data, string, array, object, Members, no_members, member}
use Rattle.serde_json.specs.View.{items_of}
use Rattle.serde_json.specs.Written.{compact_text}
use Rattle.td_civil.specs.Calendar.{text_of}
use Rattle.json_forms.specs.declared.zone_list.ListZone.{ListZone}

-- an array of strings
unfoldable pub strings : List (List ℕ) → Data
strings texts = array (items_of (map string texts))

-- the members with the aliases before them, where there are any
abbrev pub with_aliases : List (List ℕ) → Members → Members
with_aliases [] members = members
with_aliases (alias ∷ aliases) members =
    member (codes "aliases") (strings (alias ∷ aliases)) members

-- the members that each zone has
abbrev pub zone_members : ListZone → Members
zone_members z =
    member (codes "etag") (string z.etag)
    (member (codes "last-modified") (string (text_of z.stamp.seconds))
    (member (codes "publisher") (string z.publisher)
    (member (codes "tzid") (string z.tzid)
    (member (codes "version") (string z.version) no_members))))

-- a zone of the list
unfoldable pub zone_data : ListZone → Data
zone_data z = object (with_aliases z.aliases (zone_members z))

-- the list: its synchronization token, and the zones in their order
unfoldable pub list_data : List ℕ → List ListZone → Data
list_data token zones =
    object (member (codes "synctoken") (string token)
    (member (codes "timezones") (array (items_of (map zone_data zones))) no_members))

-- its text
unfoldable pub list_document : List ℕ → List ListZone → List ℕ
list_document token zones = compact_text (list_data token zones)
