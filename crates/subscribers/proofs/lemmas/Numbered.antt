-- The items of lists by their numbers, and one that is changed.
use Rattle.std.proofs.Common.{◌≡◌, ◌≢◌, ℕ, zero, suc, ◌+◌, ◌-◌, ◌<◌, ◌≤◌, List, [], ◌∷◌, ◌++◌, length, map, get_or, set, None, Some, refl, sym, ap, ◌∙◌, subst}
use Rattle.std.proofs.Common.{arith, ◌⊎◌, inl, inr, add-one}
use Rattle.std.specs.List.{slice_get}
use Rattle.std.specs.Option.{option_map}
use Rattle.std.proofs.lemmas.Option.{slice_get-map}
use Rattle.subscribers.specs.News.{numbered_from}
use Rattle.subscribers.specs.Views.{changed_at, changed_numbered}

-- ---- a list that is longer by one

get_before : {A : Type 0} (xs : List A) (x : A) (i : ℕ) → i < length xs → slice_get (xs ++ x ∷ []) i ≡ slice_get xs i
get_before [] x i lt = absurd (omega arith)
get_before (y ∷ ys) x zero lt = refl
get_before (y ∷ ys) x (suc i) lt = get_before ys x i (omega arith)

get_last : {A : Type 0} (xs : List A) (x : A) → slice_get (xs ++ x ∷ []) (length xs) ≡ Some x
get_last [] x = refl
get_last (y ∷ ys) x = get_last ys x

get_pushed : {A : Type 0} (xs : List A) (x : A) (i : ℕ)
    → (slice_get (xs ++ x ∷ []) i ≡ slice_get xs i) ⊎ ((slice_get xs i ≡ None) × (slice_get (xs ++ x ∷ []) i ≡ Some x))
get_pushed [] x zero = inr (refl, refl)
get_pushed [] x (suc i) = inl refl
get_pushed (y ∷ ys) x zero = inl refl
get_pushed (y ∷ ys) x (suc i) = get_pushed ys x i

pub numbered_before : {A : Type 0} (xs : List A) (x : A) (k : ℕ) → k ≤ length xs → numbered_from (xs ++ x ∷ []) k ≡ numbered_from xs k
numbered_before xs x zero le = refl
numbered_before xs x (suc i) le = get_before xs x i (omega arith)

pub numbered_last : {A : Type 0} (xs : List A) (x : A) → numbered_from (xs ++ x ∷ []) (length xs + 1) ≡ Some x
numbered_last xs x = rw add-one (get_last xs x)

-- it has the item that the shorter list had, or none was there and it has the last
pub numbered_pushed : {A : Type 0} (xs : List A) (x : A) (k : ℕ)
    → (numbered_from (xs ++ x ∷ []) k ≡ numbered_from xs k) ⊎ ((numbered_from xs k ≡ None) × (numbered_from (xs ++ x ∷ []) k ≡ Some x))
numbered_pushed xs x zero = inl refl
numbered_pushed xs x (suc i) = get_pushed xs x i

pub numbered_none : {A : Type 0} (k : ℕ) → numbered_from {A = A} [] k ≡ None
numbered_none zero = refl
numbered_none (suc i) = refl

-- ---- items seen by a function

pub numbered_map : {A B : Type 0} (f : A → B) (xs : List A) (k : ℕ) → numbered_from (map f xs) k ≡ option_map f (numbered_from xs k)
numbered_map f xs zero = refl
numbered_map f xs (suc i) = slice_get-map f xs i

map_changed_at : {A B : Type 0} (g : A → B) (f : A → A) (h : B → B) → ((x : A) → g (f x) ≡ h (g x)) → (i : ℕ) (xs : List A)
    → map g (changed_at f i xs) ≡ changed_at h i (map g xs)
map_changed_at g f h same i [] = refl
map_changed_at g f h same zero (x ∷ xs) = ap (λ y. y ∷ map g xs) (same x)
map_changed_at g f h same (suc i) (x ∷ xs) = ap (λ ys. g x ∷ ys) (map_changed_at g f h same i xs)

pub map_changed : {A B : Type 0} (g : A → B) (f : A → A) (h : B → B) → ((x : A) → g (f x) ≡ h (g x)) → (k : ℕ) (xs : List A)
    → map g (changed_numbered f k xs) ≡ changed_numbered h k (map g xs)
map_changed g f h same zero xs = refl
map_changed g f h same (suc i) xs = map_changed_at g f h same i xs

-- ---- the item that is changed, and the others

get_changed : {A : Type 0} (f : A → A) (i : ℕ) (xs : List A) → slice_get (changed_at f i xs) i ≡ option_map f (slice_get xs i)
get_changed f i [] = refl
get_changed f zero (x ∷ xs) = refl
get_changed f (suc i) (x ∷ xs) = get_changed f i xs

get_unchanged : {A : Type 0} (f : A → A) (i j : ℕ) (xs : List A) → i ≢ j → slice_get (changed_at f i xs) j ≡ slice_get xs j
get_unchanged f i j [] ne = refl
get_unchanged f zero zero (x ∷ xs) ne = absurd (ne refl)
get_unchanged f zero (suc j) (x ∷ xs) ne = refl
get_unchanged f (suc i) zero (x ∷ xs) ne = refl
get_unchanged f (suc i) (suc j) (x ∷ xs) ne = get_unchanged f i j xs (λ e. ne (ap suc e))

pub numbered_changed : {A : Type 0} (f : A → A) (k : ℕ) (xs : List A) → numbered_from (changed_numbered f k xs) k ≡ option_map f (numbered_from xs k)
numbered_changed f zero xs = refl
numbered_changed f (suc i) xs = get_changed f i xs

pub numbered_unchanged : {A : Type 0} (f : A → A) (k j : ℕ) (xs : List A) → k ≢ j → numbered_from (changed_numbered f k xs) j ≡ numbered_from xs j
numbered_unchanged f zero j xs ne = refl
numbered_unchanged f (suc i) zero xs ne = refl
numbered_unchanged f (suc i) (suc j) xs ne = get_unchanged f i j xs (λ e. ne (ap suc e))

-- ---- the item that is written

set_changed : {A : Type 0} (f : A → A) (xs : List A) (i : ℕ) (x y : A) → i < length xs → x ≡ get_or xs i x → y ≡ f x → set xs i y ≡ changed_at f i xs
set_changed f [] i x y lt is e = absurd (omega arith)
set_changed f (z ∷ zs) zero x y lt is e = ap (λ v. v ∷ zs) (e ∙ ap f is)
set_changed f (z ∷ zs) (suc i) x y lt is e = ap (λ vs. z ∷ vs) (set_changed f zs i x y (omega arith) is e)

pub written_changed : {A : Type 0} (f : A → A) (xs : List A) (k : ℕ) (x y : A) → 0 < k → k ≤ length xs → x ≡ get_or xs (k - 1) x → y ≡ f x
    → set xs (k - 1) y ≡ changed_numbered f k xs
written_changed f xs zero x y some le is e = absurd (omega arith)
written_changed f xs (suc i) x y some le is e =
    let less : suc i - 1 ≡ i = omega arith in
    subst (λ n. x ≡ get_or xs n x → set xs n y ≡ changed_at f i xs) (sym less) (λ h. set_changed f xs i x y (omega arith) h e) is
