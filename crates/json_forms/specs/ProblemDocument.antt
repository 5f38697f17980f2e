-- The problem document of a refused request (RFC 7808, section 5; RFC 7807, section 3) as JSON.
use Rattle.std.specs.Prelude.{ℕ, List, [], ◌∷◌, ◌++◌, Bool, Option, codes, find, option_and_then}
use Rattle.std.specs.Str.{bytes_eq}
use Rattle.serde_json.specs.Data.{Data, number, unsigned, string, object, no_members, member}
use Rattle.serde_json.specs.Find.{get, as_str}
use Rattle.serde_json.specs.Written.{compact_text}
use Rattle.json_forms.specs.declared.problem_type.Problem.{Problem}
use Rattle.json_forms.specs.declared.problem_type.Problem.TheVariants.{InvalidAction}
use Rattle.json_forms.specs.declared.problem_type.Problem.TheVariants.{InvalidChangedsince}
use Rattle.json_forms.specs.declared.problem_type.Problem.TheVariants.{TzidNotFound, InvalidFormat}
use Rattle.json_forms.specs.declared.problem_type.Problem.TheVariants.{InvalidStart, InvalidEnd}
use Rattle.json_forms.specs.declared.problem_type.Problem.TheVariants.{InvalidPattern}
use Rattle.json_forms.specs.JsonTexts.{json_in}

-- the status of the reply
abbrev pub status_of : Problem → ℕ
status_of InvalidAction = 400
status_of InvalidChangedsince = 400
status_of TzidNotFound = 404
status_of InvalidFormat = 406
status_of InvalidStart = 400
status_of InvalidEnd = 400
status_of InvalidPattern = 400

abbrev pub title_of : Problem → List ℕ
title_of InvalidAction = codes "Unknown action"
title_of InvalidChangedsince = codes "Unknown synchronization token"
title_of TzidNotFound = codes "Unknown time zone identifier"
title_of InvalidFormat = codes "No acceptable format"
title_of InvalidStart = codes "Invalid start"
title_of InvalidEnd = codes "Invalid end"
title_of InvalidPattern = codes "Invalid pattern"

-- the last part of the type
abbrev pub problem_name : Problem → List ℕ
problem_name InvalidAction = codes "invalid-action"
problem_name InvalidChangedsince = codes "invalid-changedsince"
problem_name TzidNotFound = codes "tzid-not-found"
problem_name InvalidFormat = codes "invalid-format"
problem_name InvalidStart = codes "invalid-start"
problem_name InvalidEnd = codes "invalid-end"
problem_name InvalidPattern = codes "invalid-pattern"

-- the URN that names the problem
abbrev pub type_of : Problem → List ℕ
type_of problem = codes "urn:ietf:params:tzdist:error:" ++ problem_name problem

unfoldable pub problem_data : Problem → Data
problem_data problem =
    object (member (codes "status") (number (unsigned (status_of problem)))
    (member (codes "title") (string (title_of problem))
    (member (codes "type") (string (type_of problem)) no_members)))

-- its text
unfoldable pub problem_document : Problem → List ℕ
problem_document problem = compact_text (problem_data problem)

-- whether the URN names the problem
unfoldable pub has_type : List ℕ → Problem → Bool
has_type urn problem = bytes_eq (type_of problem) urn

unfoldable pub all_problems : List Problem
all_problems =
    InvalidAction ∷ InvalidChangedsince ∷ TzidNotFound ∷ InvalidFormat ∷ InvalidStart ∷ InvalidEnd
    ∷ InvalidPattern ∷ []

-- the problem that a URN names, if it names one
abbrev pub problem_named : List ℕ → Option Problem
problem_named urn = find (has_type urn) all_problems

-- the text of the member `type` of a value, if the value is an object with such a member
abbrev pub type_member : Data → Option (List ℕ)
type_member d = option_and_then as_str (get (codes "type") d)

-- the problem that the bytes tell of, if they are an object whose type names one
unfoldable pub problem_in : List ℕ → Option Problem
problem_in text = option_and_then problem_named (option_and_then type_member (json_in text))
