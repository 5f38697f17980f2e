-- What the service can do (RFC 7808, section 6.1) as JSON.
use Rattle.std.specs.Prelude.{ℕ, List, [], ◌∷◌, ◌++◌, Bool, true, false, codes}
use Rattle.serde_json.specs.Data.{Data, boolean, number, unsigned, string, array, object}
use Rattle.serde_json.specs.Data.{no_members, member}
use Rattle.serde_json.specs.View.{items_of}
use Rattle.serde_json.specs.Written.{compact_text}
use Rattle.td_base.specs.declared.report.Role.{Role}
use Rattle.td_base.specs.declared.report.Role.TheVariants.{Primary, Secondary}
use Rattle.json_forms.specs.ListDocument.{strings}

-- a parameter of an action; none may be given more than once
abbrev pub parameter_data : List ℕ → Bool → Data
parameter_data name required =
    object (member (codes "multi") (boolean false)
    (member (codes "name") (string name)
    (member (codes "required") (boolean required) no_members)))

-- an action with its parameters and the template of its targets (RFC 6570)
unfoldable pub action_data : List ℕ → List Data → List ℕ → Data
action_data name parameters template =
    object (member (codes "name") (string name)
    (member (codes "parameters") (array (items_of parameters))
    (member (codes "uri-template") (string template) no_members)))

-- a range of time
abbrev pub range_data : Bool → List Data
range_data required =
    parameter_data (codes "start") required ∷ parameter_data (codes "end") required ∷ []

unfoldable pub capabilities_action : Data
capabilities_action = action_data (codes "capabilities") [] (codes "/tzdist/capabilities")

unfoldable pub list_action : Data
list_action =
    action_data (codes "list") (parameter_data (codes "changedsince") false ∷ [])
    (codes "/tzdist/zones{?changedsince}")

unfoldable pub get_action : Data
get_action = action_data (codes "get") (range_data false) (codes "/tzdist/zones{/tzid}{?start,end}")

unfoldable pub expand_action : Data
expand_action =
    action_data (codes "expand") (range_data true)
    (codes "/tzdist/zones{/tzid}/observances{?start,end}")

unfoldable pub find_action : Data
find_action =
    action_data (codes "find") (parameter_data (codes "pattern") true ∷ [])
    (codes "/tzdist/zones{?pattern}")

unfoldable pub leapseconds_action : Data
leapseconds_action = action_data (codes "leapseconds") [] (codes "/tzdist/leapseconds")

-- the actions, in this order; the last needs a table of leap seconds
abbrev pub actions_data : Bool → List Data
actions_data false =
    capabilities_action ∷ list_action ∷ get_action ∷ expand_action ∷ find_action ∷ []
actions_data true =
    capabilities_action ∷ list_action ∷ get_action ∷ expand_action ∷ find_action
    ∷ leapseconds_action ∷ []

-- the formats of the data, where it comes from under this name, and that any range of time may be
-- asked for, or none
unfoldable pub info_with : List ℕ → List ℕ → Data
info_with name source =
    object (member (codes "formats")
    (strings (codes "text/calendar" ∷ codes "application/tzif"
    ∷ codes "application/calendar+json" ∷ []))
    (member name (string source)
    (member (codes "truncated")
    (object (member (codes "any") (boolean true)
    (member (codes "untruncated") (boolean true) no_members)))
    no_members)))

-- the data comes from its publisher, or from the server that a secondary follows
abbrev pub info_data : Role → List ℕ → Data
info_data Primary publisher = info_with (codes "primary-source") publisher
info_data (Secondary upstream) publisher =
    info_with (codes "secondary-source") (codes "http://" ++ upstream ++ codes "/tzdist")

unfoldable pub capabilities_data : Role → List ℕ → Bool → Data
capabilities_data role publisher with_leaps =
    object (member (codes "actions") (array (items_of (actions_data with_leaps)))
    (member (codes "info") (info_data role publisher)
    (member (codes "version") (number (unsigned 1)) no_members)))

-- its text
unfoldable pub capabilities_document : Role → List ℕ → Bool → List ℕ
capabilities_document role publisher with_leaps =
    compact_text (capabilities_data role publisher with_leaps)
