-- One step: what stands at the beginning of a list of bytes, and what is answered.
use Rattle.std.specs.Prelude.{◌≡◌, ℕ, ◌≤◌, List, length, take, drop, true, false, Option, Some}
use Rattle.std.specs.Prelude.{None}
use Rattle.httparse.specs.Grammar.{RequestHead, ReadsRequest, print_request}
use Rattle.http_request.specs.Ends.{window, is_full}
use Rattle.http_request.specs.Judging.{refusal_of, asked_by}
use Rattle.http_request.specs.declared.head.Head.{Head}
use Rattle.http_request.specs.declared.limits.TheConstants.{MOST_FIELDS}
use Rattle.http_request.specs.declared.head.Next.{Next}
use Rattle.http_request.specs.declared.head.Next.TheVariants as next

-- a prefix of the text is this head
abbrev pub HeadOf : List ℕ → RequestHead → Type 0
HeadOf text h = (rest : List ℕ) × ReadsRequest text h rest × (length h.fields ≤ MOST_FIELDS)

abbrev pub HasNoHead : List ℕ → Type 0
HasNoHead text = (h : RequestHead) → ¬ (HeadOf text h)

-- what stands at the beginning: a window that begins with a head; a window that does not; none,
-- and no room for one; none so far
pub data Found : Type 0 where
  Whole : (head : RequestHead) → Found
  Malformed : Found
  TooLarge : Found
  NotYet : Found

abbrev pub Finds : List ℕ → Found → Type 0
Finds bytes (Whole h) = (n : ℕ) × (window bytes ≡ Some n) × HeadOf (take n bytes) h
Finds bytes Malformed = (n : ℕ) × (window bytes ≡ Some n) × HasNoHead (take n bytes)
Finds bytes TooLarge = (window bytes ≡ None) × (is_full bytes ≡ true)
Finds bytes NotYet = (window bytes ≡ None) × (is_full bytes ≡ false)

-- what is answered: what a head asks for, with its length; a refusal; or nothing yet
pub data Outcome : Type 0 where
  Taken : (head : Head) (len : ℕ) → Outcome
  Refused : (status : ℕ) → Outcome
  Waiting : Outcome

abbrev pub verdict : RequestHead → Option ℕ → Outcome
verdict h (Some status) = Refused status
verdict h None = Taken (asked_by h) (length (print_request h))

abbrev pub outcome : Found → Outcome
outcome (Whole h) = verdict h (refusal_of h)
outcome Malformed = Refused 400
outcome TooLarge = Refused 431
outcome NotYet = Waiting

-- the step at the beginning of these bytes
pub record IsStep (bytes : List ℕ) (o : Outcome) : Type 0 where
  pub found : Found
  pub finds : Finds bytes found
  pub is : o ≡ outcome found

-- a head is taken at the beginning
abbrev pub IsTaken : List ℕ → Type 0
IsTaken bytes = (head : Head) × (len : ℕ) × IsStep bytes (Taken head len)

-- what one call answers, and what it leaves
abbrev pub Steps : List ℕ → Next → List ℕ → Type 0
Steps old (next.Request head) new = (len : ℕ) × IsStep old (Taken head len) × (new ≡ drop len old)
Steps old (next.Bad status) new = IsStep old (Refused status) × (new ≡ old)
Steps old next.More new = IsStep old Waiting × (new ≡ old)
