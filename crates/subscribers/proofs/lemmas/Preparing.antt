-- What is prepared, committed, given up and cleared, and the subscribers beside it.
use Rattle.std.proofs.Common.{◌≡◌, ℕ, List, [], ◌∷◌, map, refl, ap, ◌∙◌}
use Rattle.admission.specs.declared.delta.Delta.{Delta}
use Rattle.subscribers.specs.Views.{IsIdle, PreparedView, changed_numbered, committed, emptied, emptied_beside, given_up, prepared, subscribers_of}
use Rattle.subscribers.proofs.lemmas.Numbered.{map_changed}

-- ---- nothing is prepared

pub idle_committed : (all : List PreparedView) → IsIdle (map committed all)
idle_committed [] = refl
idle_committed (p ∷ all) = ap (λ ps. committed p ∷ ps) (idle_committed all)

pub idle_given_up : (all : List PreparedView) → IsIdle (map given_up all)
idle_given_up [] = refl
idle_given_up (p ∷ all) = ap (λ ps. given_up p ∷ ps) (idle_given_up all)

pub idle_cleared : (number : ℕ) (all : List PreparedView) → IsIdle all → IsIdle (changed_numbered emptied_beside number all)
idle_cleared number all idle =
    map_changed given_up emptied_beside emptied_beside (λ p. refl) number all ∙ ap (changed_numbered emptied_beside number) idle

-- ---- the subscribers by themselves

pub given_up_stay : (place : ℕ) (delta : Delta) (all : List PreparedView) → subscribers_of (map given_up (map (prepared place delta) all)) ≡ subscribers_of all
given_up_stay place delta [] = refl
given_up_stay place delta (p ∷ all) = ap (λ ss. p.subscriber ∷ ss) (given_up_stay place delta all)

pub one_cleared : (number : ℕ) (all : List PreparedView)
    → subscribers_of (changed_numbered emptied_beside number all) ≡ changed_numbered emptied number (subscribers_of all)
one_cleared number all = map_changed (λ p. p.subscriber) emptied_beside emptied (λ p. refl) number all
