-- What a release changes of the one before it.
use Rattle.std.specs.Prelude.{List, [], ◌∷◌, ◌++◌, map, not, Bool, if◌then◌else◌, Option}
use Rattle.std.specs.Prelude.{None, Some}
use Rattle.std.specs.List.{filter, list_any}
use Rattle.td_civil.specs.declared.moment_type.Moment.{Moment}
use Rattle.catalogue.specs.Releases.{ContentData, ReleaseData, same_content}
use Rattle.catalogue.specs.Lookups.{named, zones_of}
use Rattle.zone_meaning.specs.Difference.{zone_difference}
use Rattle.admission.specs.declared.delta.Changed.{Changed}
use Rattle.admission.specs.declared.delta.Delta.{Delta}

-- a zone's content is none of these: no zone had its identifier, or the one that had it was another
abbrev pub is_changed : List ContentData → ContentData → Bool
is_changed old c = not (list_any (same_content c) old)

-- the first moment at which a zone differs from the one that had its identifier, if one had
abbrev pub first_from : Option ContentData → ContentData → Option Moment
first_from None c = None
first_from (Some had) c = zone_difference had.file c.file

-- a zone of a release after these zones
abbrev pub changed_from : List ContentData → ContentData → Changed
changed_from old c = record { tzid = c.tzid; first = first_from (named old c.tzid) c }

-- the same of a zone that is changed
abbrev pub change_if_any : List ContentData → ContentData → Option Changed
change_if_any old c = if is_changed old c then Some (changed_from old c) else None

-- and of one whose identifier this zone had
abbrev pub change_from_one : ContentData → ContentData → Option Changed
change_from_one had c =
    if same_content c had then None
    else Some (record { tzid = c.tzid; first = zone_difference had.file c.file })

-- a change at the end of others, if there is one
abbrev pub with_last_if_any : List Changed → Option Changed → List Changed
with_last_if_any changed None = changed
with_last_if_any changed (Some change) = changed ++ change ∷ []

-- what becomes of those of some zones that are changed, after these zones
abbrev pub content_changes : List ContentData → List ContentData → List Changed
content_changes old cs = map (changed_from old) (filter (is_changed old) cs)

-- what a release changes, of the last release of a history
unfoldable pub difference : List ReleaseData → ReleaseData → Delta
difference H next = record { changed = content_changes (zones_of H) next.contents }
