-- A list has one order that rises by a number and in which items of one number keep their order.
use Rattle.std.proofs.Common.{◌≡◌, ℕ, suc, ◌<◌, ◌≤◌, ◌+◌, Bool, true, false, cond, not, ◌&&◌, if◌then◌else◌, List, [], ◌∷◌, refl, sym, ap, ◌∙◌, subst, map}
use Rattle.std.proofs.Common.{arith, add-one}
use Rattle.std.proofs.Common.{nat_lt, nat_eq, length}
use Rattle.std.proofs.Math.Path.{fun_ext}
use Rattle.std.proofs.lemmas.Bool.{ltb-true, le-ltb, ltb-false}
use Rattle.std.specs.Bool.{⊤}
use Rattle.std.specs.List.{AllByRecursion, filter}
use Rattle.std.specs.List.Sorted.{IsSortedBy, IsSortedByKey, IsStableBy, IsStableByKey, ties}
use Rattle.std.specs.Ordering.{is_lt, nat_cmp}
use Rattle.change_index.specs.Orders.{put_by_number, rising_by_number}

-- whether the number of an item is below that of another
abbrev pub earlier : {X : Type 0} → (X → ℕ) → X → X → Bool
earlier number x y = nat_lt (number x) (number y)

by_number : (m n : ℕ) → is_lt (nat_cmp m n) ≡ nat_lt m n
by_number m n = by (nat_lt m n) (nat_eq m n)
  where
    by : (b e : Bool) → is_lt (cond b Rattle.std.proofs.Common.Less (cond e Rattle.std.proofs.Common.Equal Rattle.std.proofs.Common.Greater)) ≡ b
    by true e = refl
    by false true = refl
    by false false = refl

-- the order of a sort by a number is this one
pub order_is : {X : Type 0} (number : X → ℕ) → (λ x y. is_lt (nat_cmp (number x) (number y))) ≡ earlier number
order_is number = fun_ext (λ x. fun_ext (λ y. by_number (number x) (number y)))

and_nots : (a b : Bool) → (not a && not b) ≡ true → (a ≡ false) × (b ≡ false)
and_nots false false h = (refl, refl)
and_nots false true h = absurd (cc)
and_nots true b h = absurd (cc)

-- items that tie have the same number
tied : {X : Type 0} (number : X → ℕ) (x y : X) → ties (earlier number) x y ≡ true → number x ≡ number y
tied number x y h =
    let parts = and_nots (earlier number x y) (earlier number y x) h in
    omega (arith, ltb-false (number x) (number y) parts.0, ltb-false (number y) (number x) parts.1)

ties_itself : {X : Type 0} (number : X → ℕ) (x : X) → ties (earlier number) x x ≡ true
ties_itself number x = rw (le-ltb (number x) (number x) (omega arith)) refl

-- ---- putting in place keeps the order of items that tie

put_stable : {X : Type 0} (number : X → ℕ) (p : X → Bool) (x : X) (xs : List X) → ((y : X) → earlier number y x ≡ true → p x ≡ true → p y ≡ false)
    → filter p (put_by_number number x xs) ≡ filter p (x ∷ xs)
put_stable number p x [] apart = refl
put_stable number p x (y ∷ ys) apart = by (earlier number y x) refl (put_stable number p x ys apart)
  where
    passed : (a b : Bool) → p x ≡ a → p y ≡ b → earlier number y x ≡ true → filter p (put_by_number number x ys) ≡ cond (p x) (x ∷ filter p ys) (filter p ys)
        → filter p (y ∷ put_by_number number x ys) ≡ filter p (x ∷ y ∷ ys)
    passed true true hx hy before more = let other = apart y before hx in absurd (cc)
    passed true false hx hy before more = rw (hx, hy) (rw hx at more)
    passed false b hx hy before more = rw hx (ap (λ zs. cond (p y) (y ∷ zs) zs) (rw hx at more))

    by : (b : Bool) → earlier number y x ≡ b → filter p (put_by_number number x ys) ≡ filter p (x ∷ ys)
        → filter p (if b then y ∷ put_by_number number x ys else x ∷ y ∷ ys) ≡ filter p (x ∷ y ∷ ys)
    by true before more = passed (p x) (p y) refl refl before more
    by false before more = refl

other_tie : {X : Type 0} (number : X → ℕ) (z x y : X) → earlier number y x ≡ true → ties (earlier number) z x ≡ true → ties (earlier number) z y ≡ false
other_tie number z x y before zx = by (ties (earlier number) z y) refl
  where
    by : (b : Bool) → ties (earlier number) z y ≡ b → ties (earlier number) z y ≡ false
    by true e = absurd (omega (arith, tied number z y e, tied number z x zx, ltb-true (number y) (number x) before))
    by false e = e

rising_stable : {X : Type 0} (number : X → ℕ) (xs : List X) → IsStableBy (earlier number) xs (rising_by_number number xs)
rising_stable number [] z = refl
rising_stable number (x ∷ xs) z =
    put_stable number (ties (earlier number) z) x (rising_by_number number xs) (λ y before zx. other_tie number z x y before zx)
    ∙ ap (λ ys. cond (ties (earlier number) z x) (x ∷ ys) ys) (rising_stable number xs z)

-- ---- one order

-- each number is at most those after it
abbrev pub NeverFalls : {X : Type 0} → (X → ℕ) → List X → Type 0
NeverFalls number [] = ⊤
NeverFalls number (x ∷ xs) = AllByRecursion (λ y. number x ≤ number y) xs × NeverFalls number xs

pub each_put : {X : Type 0} (number : X → ℕ) (P : X → Type 0) (x : X) (xs : List X) → P x → AllByRecursion P xs → AllByRecursion P (put_by_number number x xs)
each_put number P x [] h all = (h, tt)
each_put number P x (y ∷ ys) h all = by (earlier number y x) (each_put number P x ys h all.1)
  where
    by : (b : Bool) → AllByRecursion P (put_by_number number x ys) → AllByRecursion P (if b then y ∷ put_by_number number x ys else x ∷ y ∷ ys)
    by true later = (all.0, later)
    by false later = (h, all)

pub each_risen : {X : Type 0} (number : X → ℕ) (P : X → Type 0) (xs : List X) → AllByRecursion P xs → AllByRecursion P (rising_by_number number xs)
each_risen number P [] all = tt
each_risen number P (x ∷ xs) all = each_put number P x (rising_by_number number xs) all.0 (each_risen number P xs all.1)

at_least : {X : Type 0} (number : X → ℕ) (m n : ℕ) (xs : List X) → m ≤ n → AllByRecursion (λ y. n ≤ number y) xs → AllByRecursion (λ y. m ≤ number y) xs
at_least number m n [] le all = tt
at_least number m n (y ∷ ys) le all = (omega (arith, le, all.0), at_least number m n ys le all.1)

never_falls_put : {X : Type 0} (number : X → ℕ) (x : X) (xs : List X) → NeverFalls number xs → NeverFalls number (put_by_number number x xs)
never_falls_put number x [] h = (tt, tt)
never_falls_put number x (y ∷ ys) h = by (earlier number y x) refl (never_falls_put number x ys h.1)
  where
    by : (b : Bool) → earlier number y x ≡ b → NeverFalls number (put_by_number number x ys) → NeverFalls number (if b then y ∷ put_by_number number x ys else x ∷ y ∷ ys)
    by true e later = (each_put number (λ z. number y ≤ number z) x ys (omega (arith, ltb-true (number y) (number x) e)) h.0, later)
    by false e later =
        let le : number x ≤ number y = ltb-false (number y) (number x) e in
        ((le, at_least number (number x) (number y) ys le h.0), h)

pub never_falls : {X : Type 0} (number : X → ℕ) (xs : List X) → NeverFalls number (rising_by_number number xs)
never_falls number [] = tt
never_falls number (x ∷ xs) = never_falls_put number x (rising_by_number number xs) (never_falls number xs)

one_of : {X : Type 0} (p : X → Bool) (Q : X → Type 0) (ys : List X) (x : X) (rest : List X) → filter p ys ≡ x ∷ rest → AllByRecursion Q ys → Q x
one_of p Q [] x rest e all = absurd (cc)
one_of p Q (y ∷ ys) x rest e all = by (p y) (λ f. one_of p Q ys x rest f all.1) e
  where
    by : (b : Bool) → (filter p ys ≡ x ∷ rest → Q x) → cond b (y ∷ filter p ys) (filter p ys) ≡ x ∷ rest → Q x
    by true again e = let same : y ≡ x = cc in subst Q same all.0
    by false again e = again e

-- the first of a list that never falls is not above an item that ties with one of the list
not_above : {X : Type 0} (number : X → ℕ) (x y : X) (ys rest : List X) → AllByRecursion (λ z. number y ≤ number z) ys
    → filter (ties (earlier number) x) (y ∷ ys) ≡ x ∷ rest → number y ≤ number x
not_above number x y ys rest all e = one_of (ties (earlier number) x) (λ z. number y ≤ number z) (y ∷ ys) x rest e (omega arith, all)

own : {X : Type 0} (number : X → ℕ) (x : X) (xs : List X) → filter (ties (earlier number) x) (x ∷ xs) ≡ x ∷ filter (ties (earlier number) x) xs
own number x xs = ap (λ b. cond b (x ∷ filter (ties (earlier number) x) xs) (filter (ties (earlier number) x) xs)) (ties_itself number x)

tails : {X : Type 0} (p : X → Bool) (x : X) (xs ys : List X) → filter p (x ∷ xs) ≡ filter p (x ∷ ys) → filter p xs ≡ filter p ys
tails p x xs ys e = by (p x) e
  where
    by : (b : Bool) → cond b (x ∷ filter p xs) (filter p xs) ≡ cond b (x ∷ filter p ys) (filter p ys) → filter p xs ≡ filter p ys
    by true e = cc
    by false e = e

one_order : {X : Type 0} (number : X → ℕ) (xs ys : List X) → NeverFalls number xs → NeverFalls number ys
    → ((z : X) → filter (ties (earlier number) z) xs ≡ filter (ties (earlier number) z) ys) → xs ≡ ys
one_order number [] [] hx hy same = refl
one_order number [] (y ∷ ys) hx hy same = let e = same y ∙ own number y ys in absurd (cc)
one_order number (x ∷ xs) [] hx hy same = let e = sym (own number x xs) ∙ same x in absurd (cc)
one_order {X} number (x ∷ xs) (y ∷ ys) hx hy same =
    let xy = not_above number x y ys (filter (ties (earlier number) x) xs) hy.0 (sym (same x) ∙ own number x xs) in
    let yx = not_above number y x xs (filter (ties (earlier number) y) ys) hx.0 (same y ∙ own number y ys) in
    let tie : ties (earlier number) x y ≡ true = rw (le-ltb (number x) (number y) xy, le-ltb (number y) (number x) yx) refl in
    let heads : x ∷ filter (ties (earlier number) x) xs ≡ y ∷ filter (ties (earlier number) x) ys =
    sym (own number x xs) ∙ same x ∙ ap (λ b. cond b (y ∷ filter (ties (earlier number) x) ys) (filter (ties (earlier number) x) ys)) tie in
    let first : x ≡ y = cc in
    let rest : (z : X) → filter (ties (earlier number) z) xs ≡ filter (ties (earlier number) z) ys =
    λ z. tails (ties (earlier number) z) x xs ys (same z ∙ ap (λ w. filter (ties (earlier number) z) (w ∷ ys)) (sym first)) in
    ap (λ zs. x ∷ zs) (one_order number xs ys hx.1 hy.1 rest) ∙ ap (λ w. w ∷ ys) first

-- ---- what a sort gives

never_falls_from : {X : Type 0} (number : X → ℕ) (ys : List X) → IsSortedBy (earlier number) ys → NeverFalls number ys
never_falls_from number [] sorted = tt
never_falls_from number (x ∷ []) sorted = (tt, tt)
never_falls_from number (x ∷ y ∷ ys) sorted =
    let tail : IsSortedBy (earlier number) (y ∷ ys) = λ k d low high. rw (add-one k) (rw (add-one (suc k)) at (sorted (suc k) d (omega arith) (omega arith))) in
    let rest = never_falls_from number (y ∷ ys) tail in
    let first : number x ≤ number y = ltb-false (number y) (number x) (sorted 0 x (omega arith) (omega arith)) in
    ((first, at_least number (number x) (number y) ys first rest.0), rest)

pub sorted_is : {X : Type 0} (number : X → ℕ) (xs ys : List X) → IsSortedByKey number nat_cmp ys → IsStableByKey number nat_cmp xs ys → ys ≡ rising_by_number number xs
sorted_is {X} number xs ys sorted stable =
    let Sorted : (X → X → Bool) → Type 0 = λ lt. IsSortedBy lt ys in
    let Stable : (X → X → Bool) → Type 0 = λ lt. IsStableBy lt xs ys in
    let kept : IsStableBy (earlier number) xs ys = subst Stable (order_is number) stable in
    one_order number ys (rising_by_number number xs) (never_falls_from number ys (subst Sorted (order_is number) sorted)) (never_falls number xs)
    (λ z. kept z ∙ sym (rising_stable number xs z))
