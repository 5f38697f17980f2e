-- A list has one rising order in which items of the same text keep their order.
use Rattle.std.proofs.Common.{◌≡◌, ℕ, suc, Bool, true, false, cond, not, ◌&&◌, if◌then◌else◌, List, [], ◌∷◌, refl, sym, ap, ◌∙◌, subst, map, arith, add-one}
use Rattle.std.specs.List.{AllByRecursion, filter}
use Rattle.std.specs.List.Sorted.{IsSortedBy, IsStableBy, ties}
use Rattle.std.specs.Str.{bytes_eq}
use Rattle.std.proofs.lemmas.Slice.Eq.{bytes_eq-Decides}
use Rattle.catalogue.specs.Order.{is_before, put_by, rising_by}
use Rattle.catalogue.proofs.lemmas.Rising.{NeverFalls, comes_after, not_before_itself, none_before, never_falls}

map-choice : {X Y : Type 0} (f : X → Y) (b : Bool) (xs ys : List X) → map f (if b then xs else ys) ≡ (if b then map f xs else map f ys)
map-choice f true xs ys = refl
map-choice f false xs ys = refl

pub map-put_by : {X Y : Type 0} (f : X → Y) (text : Y → List ℕ) (x : X) (xs : List X)
    → map f (put_by (λ y. text (f y)) x xs) ≡ put_by text (f x) (map f xs)
map-put_by f text x [] = refl
map-put_by f text x (y ∷ ys) =
    map-choice f (is_before (text (f y)) (text (f x))) (y ∷ put_by (λ z. text (f z)) x ys) (x ∷ y ∷ ys)
    ∙ ap (λ zs. if is_before (text (f y)) (text (f x)) then f y ∷ zs else f x ∷ f y ∷ map f ys) (map-put_by f text x ys)

pub map-rising_by : {X Y : Type 0} (f : X → Y) (text : Y → List ℕ) (xs : List X)
    → map f (rising_by (λ x. text (f x)) xs) ≡ rising_by text (map f xs)
map-rising_by f text [] = refl
map-rising_by f text (x ∷ xs) =
    map-put_by f text x (rising_by (λ y. text (f y)) xs) ∙ ap (put_by text (f x)) (map-rising_by f text xs)

-- whether the text of an item stands before that of another
abbrev pub earlier : {X : Type 0} → (X → List ℕ) → X → X → Bool
earlier text x y = is_before (text x) (text y)

never_itself : (t : List ℕ) → is_before t t ≡ false
never_itself t = by (is_before t t) refl
  where
    by : (b : Bool) → is_before t t ≡ b → is_before t t ≡ false
    by true e = not_before_itself t t e
    by false e = e

same_text : (a b : List ℕ) → is_before a b ≡ false → is_before b a ≡ false → a ≡ b
same_text a b ab ba = by (bytes_eq a b) refl
  where
    by : (e : Bool) → bytes_eq a b ≡ e → a ≡ b
    by true e = (bytes_eq-Decides a b).0 e
    by false e = let before = comes_after a b ba e in absurd (cc)

and_nots : (a b : Bool) → (not a && not b) ≡ true → (a ≡ false) × (b ≡ false)
and_nots false false h = (refl, refl)
and_nots false true h = absurd (cc)
and_nots true b h = absurd (cc)

-- items that tie have the same text
tied : {X : Type 0} (text : X → List ℕ) (x y : X) → ties (earlier text) x y ≡ true → text x ≡ text y
tied text x y h = let parts = and_nots (earlier text x y) (earlier text y x) h in same_text (text x) (text y) parts.0 parts.1

ties_itself : {X : Type 0} (text : X → List ℕ) (x : X) → ties (earlier text) x x ≡ true
ties_itself text x = rw (never_itself (text x)) refl

-- ---- putting in place keeps the order of items that tie

put_stable : {X : Type 0} (text : X → List ℕ) (p : X → Bool) (x : X) (xs : List X) → ((y : X) → earlier text y x ≡ true → p x ≡ true → p y ≡ false)
    → filter p (put_by text x xs) ≡ filter p (x ∷ xs)
put_stable text p x [] apart = refl
put_stable text p x (y ∷ ys) apart = by (earlier text y x) refl (put_stable text p x ys apart)
  where
    passed : (a b : Bool) → p x ≡ a → p y ≡ b → earlier text y x ≡ true → filter p (put_by text x ys) ≡ cond (p x) (x ∷ filter p ys) (filter p ys)
        → filter p (y ∷ put_by text x ys) ≡ filter p (x ∷ y ∷ ys)
    passed true true hx hy before more = let other = apart y before hx in absurd (cc)
    passed true false hx hy before more = rw (hx, hy) (rw hx at more)
    passed false b hx hy before more = rw hx (ap (λ zs. cond (p y) (y ∷ zs) zs) (rw hx at more))

    by : (b : Bool) → earlier text y x ≡ b → filter p (put_by text x ys) ≡ filter p (x ∷ ys)
        → filter p (if b then y ∷ put_by text x ys else x ∷ y ∷ ys) ≡ filter p (x ∷ y ∷ ys)
    by true before more = passed (p x) (p y) refl refl before more
    by false before more = refl

other_tie : {X : Type 0} (text : X → List ℕ) (z x y : X) → earlier text y x ≡ true → ties (earlier text) z x ≡ true → ties (earlier text) z y ≡ false
other_tie text z x y before zx = by (ties (earlier text) z y) refl
  where
    by : (b : Bool) → ties (earlier text) z y ≡ b → ties (earlier text) z y ≡ false
    by true e =
        let same : text y ≡ text x = sym (tied text z y e) ∙ tied text z x zx in
        let itself : is_before (text x) (text x) ≡ true = subst (λ t. is_before t (text x) ≡ true) same before in
        let never = never_itself (text x) in
        absurd (cc)
    by false e = e

pub rising_stable : {X : Type 0} (text : X → List ℕ) (xs : List X) → IsStableBy (earlier text) xs (rising_by text xs)
rising_stable text [] z = refl
rising_stable text (x ∷ xs) z =
    put_stable text (ties (earlier text) z) x (rising_by text xs) (λ y before zx. other_tie text z x y before zx)
    ∙ ap (λ ys. cond (ties (earlier text) z x) (x ∷ ys) ys) (rising_stable text xs z)

-- ---- one order

one_of : {X : Type 0} (p : X → Bool) (Q : X → Type 0) (ys : List X) (x : X) (rest : List X) → filter p ys ≡ x ∷ rest → AllByRecursion Q ys → Q x
one_of p Q [] x rest e all = absurd (cc)
one_of p Q (y ∷ ys) x rest e all = by (p y) (λ f. one_of p Q ys x rest f all.1) e
  where
    by : (b : Bool) → (filter p ys ≡ x ∷ rest → Q x) → cond b (y ∷ filter p ys) (filter p ys) ≡ x ∷ rest → Q x
    by true again e = let same : y ≡ x = cc in subst Q same all.0
    by false again e = again e

unmapped : {X Y : Type 0} (f : X → Y) (P : Y → Type 0) (xs : List X) → AllByRecursion P (map f xs) → AllByRecursion (λ x. P (f x)) xs
unmapped f P [] all = tt
unmapped f P (x ∷ xs) all = (all.0, unmapped f P xs all.1)

-- the first of a list that never falls is not after an item that ties with one of the list
not_earlier : {X : Type 0} (text : X → List ℕ) (x y : X) (ys rest : List X) → AllByRecursion (λ t. is_before t (text y) ≡ false) (map text ys)
    → filter (ties (earlier text) x) (y ∷ ys) ≡ x ∷ rest → earlier text x y ≡ false
not_earlier text x y ys rest all e = by (ties (earlier text) x y) refl e
  where
    by : (b : Bool) → ties (earlier text) x y ≡ b → cond b (y ∷ filter (ties (earlier text) x) ys) (filter (ties (earlier text) x) ys) ≡ x ∷ rest
        → earlier text x y ≡ false
    by true t f = (and_nots (earlier text x y) (earlier text y x) t).0
    by false t f = one_of (ties (earlier text) x) (λ z. earlier text z y ≡ false) ys x rest f (unmapped text (λ t. is_before t (text y) ≡ false) ys all)

own : {X : Type 0} (text : X → List ℕ) (x : X) (xs : List X) → filter (ties (earlier text) x) (x ∷ xs) ≡ x ∷ filter (ties (earlier text) x) xs
own text x xs = ap (λ b. cond b (x ∷ filter (ties (earlier text) x) xs) (filter (ties (earlier text) x) xs)) (ties_itself text x)

tails : {X : Type 0} (p : X → Bool) (x : X) (xs ys : List X) → filter p (x ∷ xs) ≡ filter p (x ∷ ys) → filter p xs ≡ filter p ys
tails p x xs ys e = by (p x) e
  where
    by : (b : Bool) → cond b (x ∷ filter p xs) (filter p xs) ≡ cond b (x ∷ filter p ys) (filter p ys) → filter p xs ≡ filter p ys
    by true e = cc
    by false e = e

pub one_order : {X : Type 0} (text : X → List ℕ) (xs ys : List X) → NeverFalls (map text xs) → NeverFalls (map text ys)
    → ((z : X) → filter (ties (earlier text) z) xs ≡ filter (ties (earlier text) z) ys) → xs ≡ ys
one_order text [] [] hx hy same = refl
one_order text [] (y ∷ ys) hx hy same = let e = same y ∙ own text y ys in absurd (cc)
one_order text (x ∷ xs) [] hx hy same = let e = sym (own text x xs) ∙ same x in absurd (cc)
one_order {X} text (x ∷ xs) (y ∷ ys) hx hy same =
    let xy = not_earlier text x y ys (filter (ties (earlier text) x) xs) hy.0 (sym (same x) ∙ own text x xs) in
    let yx = not_earlier text y x xs (filter (ties (earlier text) y) ys) hx.0 (same y ∙ own text y ys) in
    let tie : ties (earlier text) x y ≡ true = rw (xy, yx) refl in
    let heads : x ∷ filter (ties (earlier text) x) xs ≡ y ∷ filter (ties (earlier text) x) ys =
    sym (own text x xs) ∙ same x ∙ ap (λ b. cond b (y ∷ filter (ties (earlier text) x) ys) (filter (ties (earlier text) x) ys)) tie in
    let first : x ≡ y = cc in
    let rest : (z : X) → filter (ties (earlier text) z) xs ≡ filter (ties (earlier text) z) ys =
    λ z. tails (ties (earlier text) z) x xs ys (same z ∙ ap (λ w. filter (ties (earlier text) z) (w ∷ ys)) (sym first)) in
    ap (λ zs. x ∷ zs) (one_order text xs ys hx.1 hy.1 rest) ∙ ap (λ w. w ∷ ys) first

-- ---- what a sort gives

pub never_falls_from : {X : Type 0} (text : X → List ℕ) (ys : List X) → IsSortedBy (earlier text) ys → NeverFalls (map text ys)
never_falls_from text [] sorted = tt
never_falls_from text (x ∷ []) sorted = (tt, tt)
never_falls_from text (x ∷ y ∷ ys) sorted =
    let tail : IsSortedBy (earlier text) (y ∷ ys) = λ k d low high. rw (add-one k) (rw (add-one (suc k)) at (sorted (suc k) d (omega arith) (omega arith))) in
    let rest = never_falls_from text (y ∷ ys) tail in
    let first : is_before (text y) (text x) ≡ false = sorted 0 x (omega arith) (omega arith) in
    ((first, none_before (text x) (text y) (map text ys) first rest.0), rest)

pub sorted_is : {X : Type 0} (text : X → List ℕ) (xs ys : List X) → IsSortedBy (earlier text) ys → IsStableBy (earlier text) xs ys → ys ≡ rising_by text xs
sorted_is text xs ys sorted stable =
    one_order text ys (rising_by text xs) (never_falls_from text ys sorted) (never_falls text xs) (λ z. stable z ∙ sym (rising_stable text xs z))

-- ---- items that are borrowed

pub borrowed_rising : {R X : Type 0} (now : R → X) (text : X → List ℕ) (borrowed sorted : List R) (items : List X)
    → IsSortedBy (earlier (λ (r : R). text (now r))) sorted → IsStableBy (earlier (λ (r : R). text (now r))) borrowed sorted → map now borrowed ≡ items
    → map now sorted ≡ rising_by text items
borrowed_rising {R = R} now text borrowed sorted items in_order stable are =
    ap (map now) (sorted_is (λ (r : R). text (now r)) borrowed sorted in_order stable) ∙ map-rising_by now text borrowed ∙ ap (rising_by text) are
