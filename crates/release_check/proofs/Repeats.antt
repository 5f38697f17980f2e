-- Names that are kept, and the first of them that stood before.
use Rattle.std.proofs.Common.{◌≡◌, ℕ, ◌+◌, ◌<◌, Bool, true, false, not, ◌||◌, cond, if◌then◌else◌, List}
use Rattle.std.proofs.Common.{[], ◌∷◌, ◌++◌, length, map, take, drop, get_or, Option, Some, refl}
use Rattle.std.proofs.Common.{ap, sym, ◌∙◌}
use Rattle.std.specs.List.{list_any}
use Rattle.std.specs.Str.{bytes_eq}
use Rattle.std.proofs.lemmas.List.{at_drop_more, map-append, take_more}
use Rattle.std.proofs.lemmas.Cmp.{nat_list_eq_equiv}
use Rattle.std.proofs.lemmas.List.Folds.{list_any-append}
use Rattle.release_check.specs.Faults.{duplicate_fault}
use Rattle.release_check.specs.declared.check_fault.CheckFault.{CheckFault}
use Rattle.release_check.specs.declared.check_fault.CheckFault.TheVariants as fault

-- tests in another order
or_last : (a c : Bool) → (a || c) ≡ (c || (a || false))
or_last true true = refl
or_last true false = refl
or_last false true = refl
or_last false false = refl

-- whether a name is kept
pub is_kept : {X : Type 0} (name : X → List ℕ) (keys : List X) (text : List ℕ)
    → list_any (λ k. bytes_eq text (name k)) keys ≡ list_any (bytes_eq text) (map name keys)
is_kept name [] text = refl
is_kept name (y ∷ ys) text = ap (λ b. bytes_eq text (name y) || b) (is_kept name ys text)

same_or : (one text : List ℕ) (a b : Bool) → a ≡ cond (bytes_eq one text) true b → a ≡ (bytes_eq text one || b)
same_or one text a b e = e ∙ by (bytes_eq one text) (bytes_eq text one) b (nat_list_eq_equiv.symm one text)
  where
    by : (x y b : Bool) → x ≡ y → cond x true b ≡ (y || b)
    by true y b e = rw (← e) refl
    by false y b e = rw (← e) refl

-- the names that are kept, after one more was put among them
pub kept_more : {X : Type 0} (name : X → List ℕ) (keys more : List X) (one text : List ℕ)
    → list_any (λ k. bytes_eq text (name k)) more ≡ cond (bytes_eq one text) true (list_any (λ k. bytes_eq text (name k)) keys)
    → list_any (bytes_eq text) (map name more) ≡ (bytes_eq text one || list_any (bytes_eq text) (map name keys))
kept_more name keys more one text put =
    sym (is_kept name more text)
    ∙ same_or one text _ _ put
    ∙ ap (λ b. bytes_eq text one || b) (is_kept name keys text)

-- the names before the next, and it
next_is : {X : Type 0} (name : X → List ℕ) (xs : List X) (i : ℕ) (d : X) → i < length xs
    → map name (take (i + 1) xs) ≡ map name (take i xs) ++ name (get_or xs i d) ∷ []
next_is name xs i d inside = ap (map name) (take_more xs i d inside) ∙ map-append name (take i xs) (get_or xs i d ∷ [])

-- the names kept are those so far
pub kept_next : {X : Type 0} (name : X → List ℕ) (xs : List X) (i : ℕ) (d : X) (kept more : List (List ℕ)) → i < length xs
    → ((text : List ℕ) → list_any (bytes_eq text) kept ≡ list_any (bytes_eq text) (map name (take i xs)))
    → ((text : List ℕ) → list_any (bytes_eq text) more ≡ (bytes_eq text (name (get_or xs i d)) || list_any (bytes_eq text) kept))
    → (text : List ℕ) → list_any (bytes_eq text) more ≡ list_any (bytes_eq text) (map name (take (i + 1) xs))
kept_next name xs i d kept more inside so_far put text =
    put text
    ∙ ap (λ b. bytes_eq text (name (get_or xs i d)) || b) (so_far text)
    ∙ or_last (bytes_eq text (name (get_or xs i d))) (list_any (bytes_eq text) (map name (take i xs)))
    ∙ sym (list_any-append (bytes_eq text) (map name (take i xs)) (name (get_or xs i d) ∷ []))
    ∙ ap (list_any (bytes_eq text)) (sym (next_is name xs i d inside))

-- what names so far and the rest give is what all give
abbrev pub RepeatsSoFar : {X : Type 0} → (X → List ℕ) → List X → ℕ → Type 0
RepeatsSoFar name xs i = duplicate_fault (map name (take i xs)) (map name (drop i xs)) ≡ duplicate_fault [] (map name xs)

abbrev by_test : Bool → List (List ℕ) → List ℕ → List (List ℕ) → Option CheckFault
by_test b before name names = if b then Some (fault.Duplicate name) else duplicate_fault (before ++ name ∷ []) names

-- a name that did not stand before
pub repeats_next : {X : Type 0} (name : X → List ℕ) (xs : List X) (i : ℕ) (d : X) → i < length xs
    → list_any (bytes_eq (name (get_or xs i d))) (map name (take i xs)) ≡ false → RepeatsSoFar name xs i → RepeatsSoFar name xs (i + 1)
repeats_next name xs i d inside none so_far =
    ap (λ before. duplicate_fault before (map name (drop (i + 1) xs))) (next_is name xs i d inside)
    ∙ sym (ap (λ b. by_test b (map name (take i xs)) (name (get_or xs i d)) (map name (drop (i + 1) xs))) none)
    ∙ ap (duplicate_fault (map name (take i xs))) (sym (at_drop_more (map name) xs i d inside))
    ∙ so_far

pub was_none : (new kept so_far : Bool) → new ≡ not kept → kept ≡ so_far → new ≡ true → so_far ≡ false
was_none new true so_far n k f = absurd (cc)
was_none new false so_far n k f = sym k
