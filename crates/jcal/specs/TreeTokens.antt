-- The tokens that trees are written as.
use Rattle.std.specs.Prelude.{ℕ, List, [], ◌∷◌, ◌++◌, flat_map, codes, pos, Option, None, Some}
use Rattle.std.specs.Fmt.{signed_decimal}
use Rattle.json.specs.Token as token
use Rattle.json.specs.Token.{Token}
use Rattle.json.specs.Tree.{json_tokens}
use Rattle.serde_json.specs.Data.{Data}
use Rattle.serde_json.specs.Written.{outline}
use Rattle.td_civil.specs.declared.moment_type.Moment.{Moment}
use Rattle.td_civil.specs.Calendar.{text_of}
use Rattle.recurrence.specs.declared.rule_types.Form.{Form}
use Rattle.recurrence.specs.declared.rule_types.Form.TheVariants as form
use Rattle.recurrence.specs.Weekdays.{weekday_name}
use Rattle.jcal.specs.Tree.{integer, seven_data}

abbrev pub tree_tokens : Data → List Token
tree_tokens d = json_tokens (outline d)

-- those of trees, one after another
abbrev pub row_tokens : List Data → List Token
row_tokens ds = flat_map tree_tokens ds

-- what a property begins with
abbrev pub property_begin : List ℕ → List ℕ → List Token
property_begin name kind =
    token.begin_array ∷ token.string name ∷ token.begin_object ∷ token.end_object
    ∷ token.string kind ∷ []

-- a component: what it begins with, what stands between its properties and its components, and
-- what it ends with
abbrev pub component_begin : List ℕ → List Token
component_begin name = token.begin_array ∷ token.string name ∷ token.begin_array ∷ []

abbrev pub components_begin : List Token
components_begin = token.end_array ∷ token.begin_array ∷ []

abbrev pub component_end : List Token
component_end = token.end_array ∷ token.end_array ∷ []

-- the members that name the days of a rule
abbrev pub form_tokens : Form → List Token
form_tokens (form.NthDay month nth weekday) =
    token.key (codes "byday") ∷ token.string (signed_decimal nth ++ weekday_name weekday)
    ∷ token.key (codes "bymonth") ∷ tree_tokens (integer (pos month))
form_tokens (form.MonthDays month first weekday) =
    token.key (codes "byday") ∷ token.string (weekday_name weekday)
    ∷ token.key (codes "bymonth") ∷ tree_tokens (integer (pos month))
    ++ token.key (codes "bymonthday") ∷ tree_tokens (seven_data (pos first))
form_tokens (form.YearDays first weekday) =
    token.key (codes "byday") ∷ token.string (weekday_name weekday)
    ∷ token.key (codes "byyearday") ∷ tree_tokens (seven_data first)
form_tokens (form.FixedDate month day) =
    token.key (codes "bymonth") ∷ tree_tokens (integer (pos month))
    ++ token.key (codes "bymonthday") ∷ tree_tokens (integer (pos day))

-- and the one that tells the last moment
abbrev pub last_tokens : Option Moment → List Token
last_tokens None = []
last_tokens (Some last) = token.key (codes "until") ∷ token.string (text_of last.seconds) ∷ []
