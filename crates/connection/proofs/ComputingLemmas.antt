-- The first answer over a cache that keeps none is computed.
use Rattle.std.proofs.Common.{◌≡◌, ℕ, ◌+◌, ◌-◌, ◌^◌, ◌<◌, ◌≤◌, ◌⊎◌, inl, inr, List, [], length, Contains}
use Rattle.std.proofs.Common.{subst, arith, min}
use Rattle.answer_cache.specs.Keeping.{IsKeyAmong}
use Rattle.answer_cache.specs.declared.key.Key.{Key}
use Rattle.http_answer.specs.declared.answer.Answer.{Answer}
use Rattle.connection.specs.Keeping.{ComputesFirst, ComputesUnlessKept, IsEmptyCache, IsKept}
use Rattle.connection.specs.declared.kept_answers.KeptAnswers.{KeptAnswers}

none_among : (pairs : List (Key × Answer)) (key : Key) → pairs ≡ [] → IsKeyAmong pairs key → ⊥
none_among pairs key none x =
    let within = (subst (λ l. Contains l (key, x.0)) none x.1).1 in absurd (omega (arith, within))

not_kept : (k : KeptAnswers) (key : Key) → IsEmptyCache k → IsKept k key → ⊥
not_kept k key empty (inl x) = none_among k.many.kept key empty.0 x
not_kept k key empty (inr x) = none_among k.large.kept key empty.1 x

-- what is not kept is computed
pub replied : (before now : KeptAnswers) (key : Key) (old new : List ℕ) → ComputesUnlessKept before now key
    → ComputesFirst before now old new
replied before now key old new x = record { first = λ empty more. (x.miss (not_kept before key empty)).least }

-- no place was added
pub none_added : (before now : KeptAnswers) (old new : List ℕ) → length new ≡ length old → ComputesFirst before now old new
none_added before now old new e = record { first = λ empty more. absurd (omega (arith, e, more)) }

-- nothing was answered yet, or the first answer was computed
abbrev pub HasBegun : (before now : KeptAnswers) (old new : List ℕ) → Type 0
HasBegun before now old new =
    ((now ≡ before) × (length new ≡ length old)) ⊎ (IsEmptyCache before → min (before.computed + 1) (2 ^ 64 - 1) ≤ now.computed)

-- one request more
pub at_last : (before now later : KeptAnswers) (old new more : List ℕ) → HasBegun before now old new → ComputesFirst now later new more
    → now.computed ≤ later.computed → ComputesFirst before later old more
at_last before now later old new more (inl e) x rises = record {
  first = λ empty longer. (subst (λ k. ComputesFirst k later new more) e.0 x).first empty (omega (arith, e.1, longer));
}
at_last before now later old new more (inr f) x rises = record { first = λ empty longer. omega (arith, f empty, rises) }

-- one request more, after which the connection is open
pub goes_on : (before now later : KeptAnswers) (old new more : List ℕ) → HasBegun before now old new → ComputesFirst now later new more
    → now.computed ≤ later.computed → length more ≡ length new + 1 → HasBegun before later old more
goes_on before now later old new more (inl e) x rises one =
    inr (λ empty. (subst (λ k. ComputesFirst k later new more) e.0 x).first empty (omega (arith, one)))
goes_on before now later old new more (inr f) x rises one = inr (λ empty. omega (arith, f empty, rises))

-- all requests, from a count of none
pub from_none : (before now : KeptAnswers) (old new : List ℕ) → old ≡ [] → before.computed ≡ 0 → ComputesFirst before now old new → IsEmptyCache before
    → 1 ≤ length new → 1 ≤ now.computed
from_none before now old new none zero x empty some =
    let shorter : length old < length new = rw none (omega (arith, some)) in
    let one = x.first empty shorter in omega (arith, one, zero)
