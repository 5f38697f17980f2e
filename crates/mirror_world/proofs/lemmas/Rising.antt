-- What rises already is in rising order.
use Rattle.std.proofs.Common.{◌≡◌, List, [], ◌∷◌, true, cond, ℕ, refl, ap, ◌∙◌, map}
use Rattle.std.specs.List.{AllByRecursion}
use Rattle.catalogue.specs.Order.{IsRising, is_before, put_by, rising_by}
use Rattle.catalogue.proofs.lemmas.Rising.{not_before_itself}

put_front : {X : Type 0} (text : X → List ℕ) (x : X) (ys : List X) → AllByRecursion (λ y. is_before (text x) y ≡ true) (map text ys)
    → put_by text x ys ≡ x ∷ ys
put_front text x [] h = refl
put_front text x (y ∷ ys) h = ap (λ b. cond b (y ∷ put_by text x ys) (x ∷ y ∷ ys)) (not_before_itself (text y) (text x) h.0)

pub stays : {X : Type 0} (text : X → List ℕ) (xs : List X) → IsRising (map text xs) → rising_by text xs ≡ xs
stays text [] h = refl
stays text (x ∷ xs) h = ap (put_by text x) (stays text xs h.1) ∙ put_front text x xs h.0
