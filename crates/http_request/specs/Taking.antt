-- What a caller that feeds and asks in turn needs of each answer.
use Rattle.std.specs.Prelude.{◌≡◌, ◌⊎◌, ◌<◌, IsTrue, ℕ, List, length, ⊤}
use Rattle.td_base.specs.TargetForm.{has_form}
use Rattle.http_request.specs.Ends.{feeds}
use Rattle.http_request.specs.Holding.{HeadsView}
use Rattle.http_request.specs.declared.head.Next.{Next}
use Rattle.http_request.specs.declared.head.Next.TheVariants as next
use Rattle.http_request.specs.declared.limits.TheConstants.{MOST_HEAD_BYTES, MOST_FEEDS}

-- a request takes bytes, so that asking again and again ends
abbrev pub LeavesFewer : List ℕ → List ℕ → Next → Type 0
LeavesFewer old new (next.Request head) = length new < length old
LeavesFewer old new next.More = ⊤
LeavesFewer old new (next.Bad status) = ⊤

-- where more is asked for, fewer bytes and line feeds are held than one head may have
abbrev pub LeavesRoom : List ℕ → Next → Type 0
LeavesRoom new next.More = (length new < MOST_HEAD_BYTES) × (feeds new < MOST_FEEDS)
LeavesRoom new (next.Request head) = ⊤
LeavesRoom new (next.Bad status) = ⊤

-- where more is asked for, all that is held was searched, so that the search goes on after it
abbrev pub LeavesSearched : HeadsView → Next → Type 0
LeavesSearched new next.More = new.seen ≡ length new.rest
LeavesSearched new (next.Request head) = new.seen ≡ 0
LeavesSearched new (next.Bad status) = ⊤

-- the target of a request is in one of the two forms
abbrev pub HasForm : Next → Type 0
HasForm (next.Request head) = IsTrue (has_form head.target)
HasForm next.More = ⊤
HasForm (next.Bad status) = ⊤

-- the status of a refusal: malformed, of another method, or too large
abbrev pub IsRefusalStatus : ℕ → Type 0
IsRefusalStatus status = (status ≡ 400) ⊎ (status ≡ 405) ⊎ (status ≡ 431)

abbrev pub HasStatus : Next → Type 0
HasStatus (next.Bad status) = IsRefusalStatus status
HasStatus (next.Request head) = ⊤
HasStatus next.More = ⊤
