-- The answer that was used last is one that is kept.
use Rattle.std.proofs.Common.{◌≡◌, ◌<◌, List, [], ◌∷◌, length, slice_get, Contains, Some, option_map, ap, sym, ◌∙◌, subst}
use Rattle.std.proofs.lemmas.Option.{slice_get_within}
use Rattle.lru.proofs.Splits.{Contains-head}
use Rattle.http_answer.specs.declared.answer.Answer.{Answer}
use Rattle.answer_cache.specs.Keeping.{IsFirst}
use Rattle.answer_cache.specs.declared.key.Key.{Key}

first_kept : (pairs : List (Key × Answer)) (pair : Key × Answer) → slice_get pairs 0 ≡ Some pair → Contains pairs pair
first_kept [] pair e = cc
first_kept (p ∷ ps) pair e = let same : p ≡ pair = cc in subst (Contains (p ∷ ps)) same (Contains-head p ps)

-- there is one
pub some_kept : (pairs : List (Key × Answer)) (key : Key) → IsFirst pairs key → 0 < length pairs
some_kept pairs key n = slice_get_within pairs 0 (key, n.0) n.1

-- and what is lent of it is kept to the key
pub newest_kept : (pairs : List (Key × Answer)) (key : Key) (answer : Answer) → IsFirst pairs key
    → option_map (λ pair. pair.1) (slice_get pairs 0) ≡ Some answer → Contains pairs (key, answer)
newest_kept pairs key answer n e =
    let both : Some n.0 ≡ Some answer = sym (ap (option_map (λ pair. pair.1)) n.1) ∙ e in
    let same : n.0 ≡ answer = cc in
    subst (λ a. Contains pairs (key, a)) same (first_kept pairs (key, n.0) n.1)
