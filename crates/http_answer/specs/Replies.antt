-- The replies of HTTP/1.1, line by line (RFC 9112, section 4; RFC 9110, sections 8, 10.2, 12.5.5
-- and 15).
use Rattle.std.specs.Prelude.{ℕ, List, [], ◌∷◌, ◌++◌, length, Bool, true, false, ◌||◌, ◌==◌}
use Rattle.std.specs.Prelude.{if◌then◌else◌, Option, Some, None, unwrap_or, codes, decimal}
use Rattle.std.specs.Prelude.{flat_map, ◌≡◌, ◌⊎◌}
use Rattle.http.specs.StatusCode.{code_digits, reason_phrase}
use Rattle.http_answer.specs.declared.answer.Answer.{Answer}
use Rattle.http_answer.specs.declared.answer.Kind.{Kind}
use Rattle.http_answer.specs.declared.answer.Kind.TheVariants as kind

-- a line and its end
abbrev pub ended : List ℕ → List ℕ
ended line = line ++ codes "\r\n"

-- the lines of a head, an empty line, and the body
abbrev pub message : List (List ℕ) → List ℕ → List ℕ
message lines body = flat_map ended lines ++ (codes "\r\n" ++ body)

-- the phrase of a status code
unfoldable pub phrase : ℕ → List ℕ
phrase status = unwrap_or (reason_phrase status) []

unfoldable pub status_line : ℕ → List ℕ
status_line status = codes "HTTP/1.1 " ++ (code_digits status ++ (codes " " ++ phrase status))

abbrev pub media_type : Kind → List ℕ
media_type kind.Json = codes "application/json"
media_type kind.Problem = codes "application/problem+json"
media_type kind.Calendar = codes "text/calendar; charset=utf-8"
media_type kind.Tzif = codes "application/tzif"
media_type kind.CalendarJson = codes "application/calendar+json"

-- a line where it applies
abbrev pub line_if : Bool → List ℕ → List (List ℕ)
line_if true line = line ∷ []
line_if false line = []

-- the type of the body
unfoldable pub type_lines : Option Kind → List (List ℕ)
type_lines None = []
type_lines (Some kind) = (codes "Content-Type: " ++ media_type kind) ∷ []

-- the entity tag, and the field of the request on which it depends
unfoldable pub tag_lines : Option (List ℕ) → List (List ℕ)
tag_lines None = []
tag_lines (Some tag) = (codes "ETag: " ++ tag) ∷ codes "Vary: Accept" ∷ []

-- where the service is found
unfoldable pub location_lines : Bool → List (List ℕ)
location_lines moved = line_if moved (codes "Location: /tzdist")

-- the length of the body, which is also that of a body left out because of HEAD
unfoldable pub length_lines : List ℕ → List (List ℕ)
length_lines body = (codes "Content-Length: " ++ decimal (length body)) ∷ []

unfoldable pub close_lines : Bool → List (List ℕ)
close_lines close = line_if close (codes "Connection: close")

-- not modified: nothing is told of the content, neither its type nor its length, and it is not sent
abbrev pub is_unchanged : ℕ → Bool
is_unchanged status = status == 304

-- the lines that tell of the content, unless it is not modified
abbrev pub unless_unchanged : ℕ → List (List ℕ) → List (List ℕ)
unless_unchanged status lines = if is_unchanged status then [] else lines

-- the fields of an answer, each where it applies
abbrev pub fields : Answer → Bool → List (List ℕ)
fields answer close =
    unless_unchanged answer.status (type_lines answer.kind)
    ++ (tag_lines answer.tag
    ++ (location_lines answer.moved
    ++ (unless_unchanged answer.status (length_lines answer.body)
    ++ close_lines close)))

-- the body, unless it is not modified or the head only was asked for
abbrev pub body_sent : Answer → Bool → List ℕ
body_sent answer head_only = if is_unchanged answer.status || head_only then [] else answer.body

-- the reply to a request, which may ask for its head only; after it the connection may close
unfoldable pub reply : Answer → Bool → Bool → List ℕ
reply answer head_only close =
    message (status_line answer.status ∷ fields answer close) (body_sent answer head_only)

-- the methods that are served, told where the method is not
abbrev pub allow_lines : ℕ → List (List ℕ)
allow_lines status = line_if (status == 405) (codes "Allow: GET, HEAD")

-- a reply without a body after which the connection closes
unfoldable pub fixed : ℕ → List ℕ
fixed status =
    message
    (status_line status
    ∷ (allow_lines status ++ codes "Content-Length: 0" ∷ codes "Connection: close" ∷ [])) []

-- the statuses of answers
abbrev pub IsAnswerStatus : ℕ → Type 0
IsAnswerStatus status =
    (status ≡ 200) ⊎ (status ≡ 301) ⊎ (status ≡ 304) ⊎ (status ≡ 400) ⊎ (status ≡ 404)
    ⊎ (status ≡ 406)

-- the statuses of replies that close the connection
abbrev pub IsFixedStatus : ℕ → Type 0
IsFixedStatus status = (status ≡ 400) ⊎ (status ≡ 405) ⊎ (status ≡ 431) ⊎ (status ≡ 503)
