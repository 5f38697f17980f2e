-- A list that is walked by an index.
use Rattle.std.proofs.Common.{◌≡◌, ℕ, ◌+◌, ◌<◌, List, [], ◌∷◌, ◌++◌, length, take, drop, get_or, subst, sym, ap, ◌∙◌}
use Rattle.std.proofs.lemmas.List.{take_more, drop_more}
use Rattle.std.specs.List.{AllByRecursion}

pub take_next : {A : Type 0} (xs : List A) (i : ℕ) (x y : A) → i < length xs → x ≡ get_or xs i x → y ≡ x → take i xs ++ y ∷ [] ≡ take (i + 1) xs
take_next xs i x y within at same = sym (take_more xs i x within ∙ ap (λ z. take i xs ++ z ∷ []) (sym (same ∙ at)))

pub all_next : {A : Type 0} (P : A → Type 0) (xs : List A) (i : ℕ) (x : A) → i < length xs → x ≡ get_or xs i x
    → AllByRecursion P (drop i xs) → P x × AllByRecursion P (drop (i + 1) xs)
all_next P xs i x within at all =
    subst (AllByRecursion P) (drop_more xs i x within ∙ ap (λ z. z ∷ drop (i + 1) xs) (sym at)) all
