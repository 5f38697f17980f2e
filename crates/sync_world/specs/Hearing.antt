-- What a mirror hears in the answers of a primary to its requests.
use Rattle.std.specs.Prelude.{ℕ, List, codes, None, Some, Ok, ◌≡◌}
use Rattle.td_base.specs.declared.report.Ask.{Ask}
use Rattle.td_base.specs.declared.report.Ask.TheVariants as ask
use Rattle.td_base.specs.declared.report.Role.TheVariants.{Primary}
use Rattle.catalogue.specs.Lookups.{place_of}
use Rattle.catalogue.specs.Releases.{ContentData, ReleaseData}
use Rattle.catalogue.specs.declared.limits.TheConstants.{KEPT_TOKENS}
use Rattle.http_answer.specs.declared.answer.Answer.{Answer}
use Rattle.http_request.specs.declared.head.Head.{Head}
use Rattle.json_forms.specs.ListReading.{list_read}
use Rattle.json_forms.specs.ProblemDocument.{problem_in}
use Rattle.json_forms.specs.declared.problem_type.Problem.TheVariants.{InvalidChangedsince}
use Rattle.negotiate.specs.declared.choosing.Format.{Format}
use Rattle.negotiate.specs.declared.choosing.Format.TheVariants as format
use Rattle.target.specs.Actions.{asks}
use Rattle.target.specs.declared.asked_types.Asked.{Asked}
use Rattle.target.specs.declared.asked_types.Asked.TheVariants as asked
use Rattle.target.specs.declared.asked_types.Param.TheVariants as param
use Rattle.actions.specs.Action.{action}
use Rattle.actions.specs.Formats.{format_data}
use Rattle.actions.specs.declared.bounds.Bound.TheVariants.{Open}
use Rattle.sync_core.specs.declared.heard_type.Heard.{Heard}
use Rattle.sync_core.specs.declared.heard_type.Heard.TheVariants as heard
use Rattle.sync_world.specs.Primaries.{Service}

-- what a request asks for: a list, since a token where there is one, or the whole data of a zone
abbrev pub action_asked : Ask → Asked
action_asked (ask.List None) = asked.List param.Absent
action_asked (ask.List (Some token)) = asked.List (param.Once token)
action_asked (ask.Get name) = asked.Get name param.Absent param.Absent

-- the media type of a zone's data in a format (RFC 5545, section 8.1; RFC 9636, section 9; RFC
-- 7265, section 7)
abbrev pub type_of_format : Format → List ℕ
type_of_format format.Calendar = codes "text/calendar"
type_of_format format.Tzif = codes "application/tzif"
type_of_format format.CalendarJson = codes "application/calendar+json"

-- lists are JSON, and zones of the format
abbrev pub data_accepted : Format → Ask → List ℕ
data_accepted f (ask.List token) = codes "application/json"
data_accepted f (ask.Get name) = type_of_format f

-- the head is one of a request that asks so
pub record IsDataHeadOf (f : Format) (a : Ask) (head : Head) : Type 0 where
  pub target : asks head.target ≡ action_asked a
  pub accept : head.accept ≡ Some (data_accepted f a)
  pub none_match : head.none_match ≡ None

-- what is heard in an answer: a list in a document, a file in a body, and that a token is refused
-- in a problem of this type
abbrev pub IsHeardIn : Ask → Answer → Heard → Type 0
IsHeardIn (ask.List token) answer (heard.List doc) =
    (answer.status ≡ 200) × (list_read answer.body ≡ Ok doc)
IsHeardIn (ask.List token) answer (heard.Zone bytes) = ⊥
IsHeardIn (ask.List None) answer heard.BadToken = ⊥
IsHeardIn (ask.List (Some token)) answer heard.BadToken =
    (answer.status ≡ 400) × (problem_in answer.body ≡ Some InvalidChangedsince)
IsHeardIn (ask.Get name) answer (heard.List doc) = ⊥
IsHeardIn (ask.Get name) answer (heard.Zone bytes) = (answer.status ≡ 200) × (answer.body ≡ bytes)
IsHeardIn (ask.Get name) answer heard.BadToken = ⊥

-- a request that asks so is answered over the history, and this is heard in the answer
pub record IsDataHeardOver (f : Format) (H : List ReleaseData) (a : Ask) (h : Heard) : Type 0 where
  pub head : Head
  pub asks_so : IsDataHeadOf f a head
  pub hears : IsHeardIn a (action H Primary head) h

-- a zone's data without bounds, under one of its names
abbrev pub whole_data : Format → List ℕ → ContentData → List ℕ
whole_data f name c = (format_data f).text name c (record { start = Open; end = Open })

-- a primary that answers so knows the tokens of its last places, and has a zone's data under each
-- of its names
abbrev pub data_service : Format → Service
data_service f = record { kept = KEPT_TOKENS; place = place_of; served = whole_data f }

-- the same of TZif files: a zone has its own file under each of its names
abbrev pub accepted_by_ask : Ask → List ℕ
accepted_by_ask a = data_accepted format.Tzif a

abbrev pub IsHeadOf : Ask → Head → Type 0
IsHeadOf a head = IsDataHeadOf format.Tzif a head

abbrev pub IsHeardOver : List ReleaseData → Ask → Heard → Type 0
IsHeardOver H a h = IsDataHeardOver format.Tzif H a h

abbrev pub told_file : List ℕ → ContentData → List ℕ
told_file name c = c.file

abbrev pub action_service : Service
action_service = record { kept = KEPT_TOKENS; place = place_of; served = told_file }
