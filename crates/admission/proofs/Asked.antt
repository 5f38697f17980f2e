-- The rules one after another, and the tests that are kept.
use Rattle.std.proofs.Common.{◌≡◌, ℕ, suc, ◌+◌, ◌<◌, ◌≤◌, Bool, true, false, if◌then◌else◌, List, ◌∷◌, drop, length, get_or, Option, None}
use Rattle.std.proofs.Common.{Some, refl, sym, ap, ◌∙◌, add-one, drop-cons, true≢false}
use Rattle.std.specs.List.{list_all, position_from}
use Rattle.std.proofs.lemmas.List.{drop_all}
use Rattle.std.proofs.lemmas.List.Folds.{list_all_at}

-- what is left is searched as the whole is
abbrev pub SearchLeft : {X : Type 0} → (X → Bool) → List X → ℕ → Option ℕ → Type 0
SearchLeft p xs i whole = position_from p (i + 1) (drop i xs) ≡ whole

left_is : {X : Type 0} (p : X → Bool) (xs : List X) (i : ℕ) (x : X) → i < length xs → x ≡ get_or xs i x
    → position_from p (i + 1) (drop i xs) ≡ (if p x then Some (i + 1) else position_from p (i + 1 + 1) (drop (i + 1) xs))
left_is p xs i x lt is =
    let one : drop i xs ≡ x ∷ drop (i + 1) xs = rw add-one (drop-cons xs i x lt ∙ ap (λ z. z ∷ drop (suc i) xs) (sym is)) in
    ap (position_from p (i + 1)) one

pub passes : {X : Type 0} (p : X → Bool) (xs : List X) (i : ℕ) (x : X) (whole : Option ℕ) → i < length xs → x ≡ get_or xs i x → p x ≡ false
    → SearchLeft p xs i whole → SearchLeft p xs (i + 1) whole
passes p xs i x whole lt is fails left =
    ap (λ b. if b then Some (i + 1) else position_from p (i + 1 + 1) (drop (i + 1) xs)) (sym fails) ∙ sym (left_is p xs i x lt is) ∙ left

pub stops : {X : Type 0} (p : X → Bool) (xs : List X) (i : ℕ) (x : X) (whole : Option ℕ) → i < length xs → x ≡ get_or xs i x → p x ≡ true
    → SearchLeft p xs i whole → Some (i + 1) ≡ whole
stops p xs i x whole lt is found left =
    ap (λ b. if b then Some (i + 1) else position_from p (i + 1 + 1) (drop (i + 1) xs)) (sym found) ∙ sym (left_is p xs i x lt is) ∙ left

pub none_stops : {X : Type 0} (p : X → Bool) (xs : List X) (i : ℕ) (whole : Option ℕ) → length xs ≤ i → SearchLeft p xs i whole → None ≡ whole
none_stops p xs i whole end left = ap (position_from p (i + 1)) (sym (drop_all i xs end)) ∙ left

-- what is so of all is so of each
pub one_kept : {X : Type 0} (p : X → Bool) (xs : List X) (i : ℕ) (d : X) → i < length xs → list_all p xs ≡ true → p (get_or xs i d) ≡ true
one_kept p xs i d less all =
    elim (p (get_or xs i d)) as (λ b. p (get_or xs i d) ≡ b → b ≡ true) [
      | true ↦ λ e. refl
      | false ↦ λ e. absurd (true≢false (sym all ∙ list_all_at p xs i d less e))
    ] refl
