-- A list whose items are written one after another, each as a function of what it was.
use Rattle.std.proofs.Common.{◌≡◌, ℕ, zero, suc, ◌+◌, ◌<◌, ◌≤◌, List, [], ◌∷◌, ◌++◌, length, map, take, drop, get_or, set, refl, ap, ◌∙◌, arith, add-one}

-- the items before i as they come to be, the others as they were
abbrev pub written : {A : Type 0} → (A → A) → ℕ → List A → List A
written f i xs = map f (take i xs) ++ drop i xs

written_suc : {A : Type 0} (f : A → A) (xs : List A) (i : ℕ) (x y : A) → i < length xs → x ≡ get_or (written f i xs) i x → y ≡ f x
    → set (written f i xs) i y ≡ written f (suc i) xs
written_suc f [] i x y lt is e = absurd (omega arith)
written_suc f (z ∷ zs) zero x y lt is e = ap (λ v. v ∷ zs) (e ∙ ap f is)
written_suc f (z ∷ zs) (suc i) x y lt is e = ap (λ vs. f z ∷ vs) (written_suc f zs i x y (omega arith) is e)

pub written_more : {A : Type 0} (f : A → A) (xs now : List A) (i : ℕ) (x y : A) → now ≡ written f i xs → i < length xs → x ≡ get_or now i x → y ≡ f x
    → set now i y ≡ written f (i + 1) xs
written_more f xs now i x y so_far lt is e =
    rw add-one (ap (λ zs. set zs i y) so_far ∙ written_suc f xs i x y lt (is ∙ ap (λ zs. get_or zs i x) so_far) e)

pub written_all : {A : Type 0} (f : A → A) (xs : List A) (i : ℕ) → length xs ≤ i → written f i xs ≡ map f xs
written_all f [] zero le = refl
written_all f [] (suc i) le = refl
written_all f (z ∷ zs) zero le = absurd (omega arith)
written_all f (z ∷ zs) (suc i) le = ap (λ vs. f z ∷ vs) (written_all f zs i (omega arith))

unseen_at : {A B : Type 0} (f : A → A) (g : A → B) → ((z : A) → g (f z) ≡ g z) → (xs : List A) (i : ℕ) (x y : A) → i < length xs
    → x ≡ get_or (written f i xs) i x → y ≡ x → map g (set (written f i xs) i y) ≡ map g xs
unseen_at f g unseen [] i x y lt is e = absurd (omega arith)
unseen_at f g unseen (z ∷ zs) zero x y lt is e = ap (λ v. g v ∷ map g zs) (e ∙ is)
unseen_at f g unseen (z ∷ zs) (suc i) x y lt is e =
    ap (λ v. v ∷ map g (set (written f i zs) i y)) (unseen z) ∙ ap (λ vs. g z ∷ vs) (unseen_at f g unseen zs i x y (omega arith) is e)

-- a function that sees nothing of what is written sees the list as it was, also where an item is
-- written as it is
pub written_unseen : {A B : Type 0} (f : A → A) (g : A → B) → ((z : A) → g (f z) ≡ g z) → (xs now : List A) (i : ℕ) (x y : A) → now ≡ written f i xs
    → i < length xs → x ≡ get_or now i x → y ≡ x → map g (set now i y) ≡ map g xs
written_unseen f g unseen xs now i x y so_far lt is e =
    ap (λ zs. map g (set zs i y)) so_far ∙ unseen_at f g unseen xs i x y lt (is ∙ ap (λ zs. get_or zs i x) so_far) e
