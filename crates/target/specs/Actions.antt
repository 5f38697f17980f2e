-- The action that a target asks for (RFC 7808, section 5).
use Rattle.std.specs.Prelude.{ℕ, List, [], ◌∷◌, length, Bool, not, ◌&&◌, ◌==◌, if◌then◌else◌}
use Rattle.std.specs.Prelude.{Option, Some, None, codes, bytes_eq}
use Rattle.target.specs.Paths.{path_of, query_of, raw_segments, decode_segments}
use Rattle.target.specs.Parameters.{parameter}
use Rattle.target.specs.declared.asked_types.Param.{Param}
use Rattle.target.specs.declared.asked_types.Param.TheVariants as param
use Rattle.target.specs.declared.asked_types.Asked.{Asked}
use Rattle.target.specs.declared.asked_types.Asked.TheVariants as ask

-- a pattern asks for the zones that it matches; without one all zones are asked for, or those that
-- changed
abbrev pub find_or_list : Param → List ℕ → Asked
find_or_list param.Absent query = ask.List (parameter (codes "changedsince") query)
find_or_list pattern query = ask.Find pattern

abbrev pub zones : List ℕ → Asked
zones query = find_or_list (parameter (codes "pattern") query) query

-- two segments name the service, or one of its documents
unfoldable pub document : List ℕ → List ℕ → List ℕ → Asked
document root name query =
    if bytes_eq root (codes ".well-known") && bytes_eq name (codes "timezone") then ask.WellKnown
    else if not (bytes_eq root (codes "tzdist")) then ask.Unknown
    else if bytes_eq name (codes "capabilities") then ask.Capabilities
    else if bytes_eq name (codes "leapseconds") then ask.LeapSeconds
    else if bytes_eq name (codes "zones") then zones query
    else ask.Unknown

-- the segments of a zone, which has a name
abbrev pub is_zone : List ℕ → List ℕ → List ℕ → Bool
is_zone root zones tzid =
    bytes_eq root (codes "tzdist") && bytes_eq zones (codes "zones") && not (length tzid == 0)

-- three segments name a zone
abbrev pub zone : List ℕ → List ℕ → List ℕ → List ℕ → Asked
zone root zones tzid query =
    if is_zone root zones tzid
    then ask.Get tzid (parameter (codes "start") query) (parameter (codes "end") query)
    else ask.Unknown

-- four segments name its observances
abbrev pub observances : List ℕ → List ℕ → List ℕ → List ℕ → List ℕ → Asked
observances root zones tzid last query =
    if is_zone root zones tzid && bytes_eq last (codes "observances")
    then ask.Expand tzid (parameter (codes "start") query) (parameter (codes "end") query)
    else ask.Unknown

-- what the decoded segments ask for, with the parameters of the query
unfoldable pub asked_action : List (List ℕ) → List ℕ → Asked
asked_action (root ∷ name ∷ []) query = document root name query
asked_action (root ∷ zones ∷ tzid ∷ []) query = zone root zones tzid query
asked_action (root ∷ zones ∷ tzid ∷ last ∷ []) query = observances root zones tzid last query
asked_action segments query = ask.Unknown

-- a segment that is not UTF-8 asks for nothing
abbrev pub action_of : Option (List (List ℕ)) → List ℕ → Asked
action_of None query = ask.Unknown
action_of (Some segments) query = asked_action segments query

-- what a target asks for
unfoldable pub asks : List ℕ → Asked
asks target = action_of (decode_segments (raw_segments (path_of target))) (query_of target)
