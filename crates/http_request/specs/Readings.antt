-- What the parts of the code answer, by the words of one step.
use Rattle.std.specs.Prelude.{◌≡◌, ℕ, ◌⊎◌, List, length, Some, None}
use Rattle.httparse.specs.Grammar.{RequestHead, print_request}
use Rattle.http_request.specs.Judging.{refusal_of, asked_by}
use Rattle.http_request.specs.Scans.{Searches}
use Rattle.http_request.specs.Steps.{HeadOf, HasNoHead, IsStep, Taken, Refused, Waiting}
use Rattle.http_request.specs.declared.scan.Search.TheVariants as search
use Rattle.http_request.specs.declared.step.Step.{Step}
use Rattle.http_request.specs.declared.step.Step.TheVariants as step

-- a window begins with this head, judged, and is never waited for
abbrev pub ReadsHead : List ℕ → Step → Type 0
ReadsHead text (step.Taken head len) =
    (h : RequestHead) × HeadOf text h × (refusal_of h ≡ None) × (head ≡ asked_by h)
    × (len ≡ length (print_request h))
ReadsHead text (step.Refused status) =
    ((h : RequestHead) × HeadOf text h × (refusal_of h ≡ Some status))
    ⊎ (HasNoHead text × (status ≡ 400))
ReadsHead text (step.Waiting scan) = ⊥

-- a window begins with a head that is served
abbrev pub IsServedMethod : List ℕ → Type 0
IsServedMethod text = (h : RequestHead) × HeadOf text h × (refusal_of h ≡ None)

-- the step at the beginning of the bytes, with the search where it waits
abbrev pub FindsStep : List ℕ → Step → Type 0
FindsStep bytes (step.Taken head len) = IsStep bytes (Taken head len)
FindsStep bytes (step.Refused status) = IsStep bytes (Refused status)
FindsStep bytes (step.Waiting scan) = IsStep bytes Waiting × Searches bytes (search.Open scan)
