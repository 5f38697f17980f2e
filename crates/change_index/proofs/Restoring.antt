-- What was put into the order of its numbers is put back into that of its positions.
use Rattle.std.proofs.Common.{◌≡◌, ℕ, ◌<◌, ◌+◌, Bool, true, false, cond, if◌then◌else◌, List, [], ◌∷◌, refl, sym, ap, ◌∙◌, map, arith, ◌≢◌}
use Rattle.std.proofs.Common.{nat_lt}
use Rattle.std.proofs.lemmas.Bool.{lt-ltb, ltb-true, le-ltb, ltb-false}
use Rattle.std.specs.List.{AllByRecursion, filter}
use Rattle.change_index.specs.Orders.{put_by_number, rising_by_number}
use Rattle.change_index.specs.Positions.{positions}
use Rattle.change_index.specs.Keeping.{kept_of, numbers_of, placed_from}
use Rattle.change_index.specs.declared.placed.Placed.{Placed}
use Rattle.change_index.proofs.Sorting.{each_risen}

-- two items of different numbers may be put in place in either order
commute : {X : Type 0} (number : X → ℕ) (x y : X) (zs : List X) → number x ≢ number y
    → put_by_number number x (put_by_number number y zs) ≡ put_by_number number y (put_by_number number x zs)
commute number x y [] apart = by (nat_lt (number y) (number x)) (nat_lt (number x) (number y)) refl refl
  where
    by : (a b : Bool) → nat_lt (number y) (number x) ≡ a → nat_lt (number x) (number y) ≡ b
        → (if a then y ∷ x ∷ [] else x ∷ y ∷ []) ≡ (if b then x ∷ y ∷ [] else y ∷ x ∷ [])
    by true true ea eb = absurd (omega (arith, ltb-true (number y) (number x) ea, ltb-true (number x) (number y) eb))
    by true false ea eb = refl
    by false true ea eb = refl
    by false false ea eb = absurd (apart (omega (arith, ltb-false (number y) (number x) ea, ltb-false (number x) (number y) eb)))
commute {X} number x y (z ∷ zs) apart = by (nat_lt (number z) (number x)) (nat_lt (number z) (number y)) refl refl (commute number x y zs apart)
  where
    placed : (u v : X) → nat_lt (number z) (number u) ≡ true → nat_lt (number z) (number v) ≡ false
        → put_by_number number u (v ∷ z ∷ zs) ≡ v ∷ z ∷ put_by_number number u zs
    placed u v zu zv =
        let above : nat_lt (number v) (number u) ≡ true =
        lt-ltb (number v) (number u) (omega (arith, ltb-true (number z) (number u) zu, ltb-false (number z) (number v) zv)) in
        rw (above, zu) refl

    by : (a b : Bool) → nat_lt (number z) (number x) ≡ a → nat_lt (number z) (number y) ≡ b → put_by_number number x (put_by_number number y zs) ≡ put_by_number number y (put_by_number number x zs)
        → put_by_number number x (if b then z ∷ put_by_number number y zs else y ∷ z ∷ zs) ≡ put_by_number number y (if a then z ∷ put_by_number number x zs else x ∷ z ∷ zs)
    by true true ea eb more = rw (ea, eb) (ap (λ ws. z ∷ ws) more)
    by true false ea eb more = placed x y ea eb ∙ rw eb refl
    by false true ea eb more = rw ea refl ∙ sym (placed y x eb ea)
    by false false ea eb more = last (nat_lt (number y) (number x)) (nat_lt (number x) (number y)) refl refl
      where
        last : (c d : Bool) → nat_lt (number y) (number x) ≡ c → nat_lt (number x) (number y) ≡ d
            → (if c then y ∷ put_by_number number x (z ∷ zs) else x ∷ y ∷ z ∷ zs) ≡ (if d then x ∷ put_by_number number y (z ∷ zs) else y ∷ x ∷ z ∷ zs)
        last true true ec ed = absurd (omega (arith, ltb-true (number y) (number x) ec, ltb-true (number x) (number y) ed))
        last true false ec ed = rw ea refl
        last false true ec ed = rw eb refl
        last false false ec ed = absurd (apart (omega (arith, ltb-false (number y) (number x) ec, ltb-false (number x) (number y) ed)))

-- ---- positions that are apart

abbrev Apart : {X : Type 0} → (X → ℕ) → List X → Type 0
Apart number [] = Unit {0}
Apart number (x ∷ xs) = AllByRecursion (λ y. number x ≢ number y) xs × Apart number xs

-- what is put where its number belongs is put where its position belongs
put_filtered : {X : Type 0} (at number : X → ℕ) (p : X → Bool) (x : X) (ys : List X) → AllByRecursion (λ y. at x ≢ at y) ys
    → rising_by_number at (filter p (put_by_number number x ys)) ≡ rising_by_number at (filter p (x ∷ ys))
put_filtered at number p x [] apart = refl
put_filtered at number p x (y ∷ ys) apart = by (nat_lt (number y) (number x)) (put_filtered at number p x ys apart.1)
  where
    passed : (a b : Bool) → rising_by_number at (filter p (put_by_number number x ys)) ≡ rising_by_number at (cond a (x ∷ filter p ys) (filter p ys))
        → rising_by_number at (cond b (y ∷ filter p (put_by_number number x ys)) (filter p (put_by_number number x ys)))
        ≡ rising_by_number at (cond a (x ∷ cond b (y ∷ filter p ys) (filter p ys)) (cond b (y ∷ filter p ys) (filter p ys)))
    passed true true more = ap (put_by_number at y) more ∙ sym (commute at x y (rising_by_number at (filter p ys)) apart.0)
    passed true false more = more
    passed false true more = ap (put_by_number at y) more
    passed false false more = more

    by : (b : Bool) → rising_by_number at (filter p (put_by_number number x ys)) ≡ rising_by_number at (filter p (x ∷ ys))
        → rising_by_number at (filter p (if b then y ∷ put_by_number number x ys else x ∷ y ∷ ys)) ≡ rising_by_number at (filter p (x ∷ y ∷ ys))
    by true more = passed (p x) (p y) more
    by false more = refl

rising_filtered : {X : Type 0} (at number : X → ℕ) (p : X → Bool) (xs : List X) → Apart at xs
    → rising_by_number at (filter p (rising_by_number number xs)) ≡ rising_by_number at (filter p xs)
rising_filtered at number p [] apart = refl
rising_filtered at number p (x ∷ xs) apart =
    put_filtered at number p x (rising_by_number number xs) (each_risen number (λ y. at x ≢ at y) xs apart.0)
    ∙ by (p x) (rising_filtered at number p xs apart.1)
  where
    by : (b : Bool) → rising_by_number at (filter p (rising_by_number number xs)) ≡ rising_by_number at (filter p xs)
        → rising_by_number at (cond b (x ∷ filter p (rising_by_number number xs)) (filter p (rising_by_number number xs))) ≡ rising_by_number at (cond b (x ∷ filter p xs) (filter p xs))
    by true more = ap (put_by_number at x) more
    by false more = more

-- ---- what is placed stands in the order of its positions

abbrev Rises : {X : Type 0} → (X → ℕ) → List X → Type 0
Rises number [] = Unit {0}
Rises number (x ∷ xs) = AllByRecursion (λ y. number x < number y) xs × Rises number xs

each_apart : {X : Type 0} (number : X → ℕ) (x : X) (ys : List X) → AllByRecursion (λ y. number x < number y) ys → AllByRecursion (λ y. number x ≢ number y) ys
each_apart number x [] above = tt
each_apart number x (y ∷ ys) above = (λ e. absurd (omega (arith, e, above.0)), each_apart number x ys above.1)

apart_from : {X : Type 0} (number : X → ℕ) (xs : List X) → Rises number xs → Apart number xs
apart_from number [] rises = tt
apart_from number (x ∷ xs) rises = (each_apart number x xs rises.0, apart_from number xs rises.1)

each_filtered : {X : Type 0} (P : X → Type 0) (p : X → Bool) (xs : List X) → AllByRecursion P xs → AllByRecursion P (filter p xs)
each_filtered P p [] all = tt
each_filtered P p (x ∷ xs) all = by (p x) (each_filtered P p xs all.1)
  where
    by : (b : Bool) → AllByRecursion P (filter p xs) → AllByRecursion P (cond b (x ∷ filter p xs) (filter p xs))
    by true rest = (all.0, rest)
    by false rest = rest

rises_filtered : {X : Type 0} (number : X → ℕ) (p : X → Bool) (xs : List X) → Rises number xs → Rises number (filter p xs)
rises_filtered number p [] rises = tt
rises_filtered number p (x ∷ xs) rises = by (p x) (rises_filtered number p xs rises.1)
  where
    by : (b : Bool) → Rises number (filter p xs) → Rises number (cond b (x ∷ filter p xs) (filter p xs))
    by true rest = (each_filtered (λ y. number x < number y) p xs rises.0, rest)
    by false rest = rest

put_first : {X : Type 0} (number : X → ℕ) (x : X) (ys : List X) → AllByRecursion (λ y. number x < number y) ys → put_by_number number x ys ≡ x ∷ ys
put_first number x [] above = refl
put_first number x (y ∷ ys) above = rw (le-ltb (number y) (number x) (omega (arith, above.0))) refl

risen : {X : Type 0} (number : X → ℕ) (xs : List X) → Rises number xs → rising_by_number number xs ≡ xs
risen number [] rises = refl
risen number (x ∷ xs) rises = ap (put_by_number number x) (risen number xs rises.1) ∙ put_first number x xs rises.0

placed_above : (k j : ℕ) (ns : List ℕ) → k < j → AllByRecursion (λ p. k < p.at) (placed_from j ns)
placed_above k j [] lt = tt
placed_above k j (n ∷ ns) lt = (lt, placed_above k (j + 1) ns (omega (arith, lt)))

placed_rises : (k : ℕ) (ns : List ℕ) → Rises (λ (p : Placed). p.at) (placed_from k ns)
placed_rises k [] = tt
placed_rises k (n ∷ ns) = (placed_above k (k + 1) ns (omega arith), placed_rises (k + 1) ns)

-- what passes of all that is kept, in the order of positions
restored : (p : Placed → Bool) (ns : List ℕ) → rising_by_number (λ (q : Placed). q.at) (filter p (kept_of ns)) ≡ filter p (placed_from 0 ns)
unfolding kept_of
restored p ns =
    rising_filtered (λ (q : Placed). q.at) (λ (q : Placed). q.change) p (placed_from 0 ns) (apart_from (λ (q : Placed). q.at) (placed_from 0 ns) (placed_rises 0 ns))
    ∙ risen (λ (q : Placed). q.at) (filter p (placed_from 0 ns)) (rises_filtered (λ (q : Placed). q.at) p (placed_from 0 ns) (placed_rises 0 ns))

-- ---- the numbers, and the positions

all_pass : {X : Type 0} (xs : List X) → filter (λ _. true) xs ≡ xs
all_pass [] = refl
all_pass (x ∷ xs) = ap (λ ys. x ∷ ys) (all_pass xs)

placed_numbers : (k : ℕ) (ns : List ℕ) → map (λ (p : Placed). p.change) (placed_from k ns) ≡ ns
placed_numbers k [] = refl
placed_numbers k (n ∷ ns) = ap (λ ms. n ∷ ms) (placed_numbers (k + 1) ns)

-- what is kept of numbers tells the numbers
pub numbers_back : (ns : List ℕ) → numbers_of (kept_of ns) ≡ ns
unfolding numbers_of
numbers_back ns =
    ap (λ ps. map (λ (p : Placed). p.change) (rising_by_number (λ (p : Placed). p.at) ps)) (sym (all_pass (kept_of ns)))
    ∙ ap (map (λ (p : Placed). p.change)) (restored (λ _. true) ns ∙ all_pass (placed_from 0 ns))
    ∙ placed_numbers 0 ns

placed_positions : (p : ℕ → Bool) (k : ℕ) (ns : List ℕ) → map (λ (q : Placed). q.at) (filter (λ (q : Placed). p q.change) (placed_from k ns)) ≡ positions p k ns
placed_positions p k [] = refl
placed_positions p k (n ∷ ns) = by (p n) (placed_positions p (k + 1) ns)
  where
    by : (b : Bool) → map (λ (q : Placed). q.at) (filter (λ (q : Placed). p q.change) (placed_from (k + 1) ns)) ≡ positions p (k + 1) ns
        → map (λ (q : Placed). q.at) (cond b (record { change = n; at = k } ∷ filter (λ (q : Placed). p q.change) (placed_from (k + 1) ns))
        (filter (λ (q : Placed). p q.change) (placed_from (k + 1) ns)))
        ≡ (if b then k ∷ positions p (k + 1) ns else positions p (k + 1) ns)
    by true more = ap (λ ks. k ∷ ks) more
    by false more = more

map-choice : {X Y : Type 0} (f : X → Y) (b : Bool) (xs ys : List X) → map f (if b then xs else ys) ≡ (if b then map f xs else map f ys)
map-choice f true xs ys = refl
map-choice f false xs ys = refl

map-put_by : {X Y : Type 0} (f : X → Y) (number : Y → ℕ) (x : X) (xs : List X)
    → map f (put_by_number (λ y. number (f y)) x xs) ≡ put_by_number number (f x) (map f xs)
map-put_by f number x [] = refl
map-put_by f number x (y ∷ ys) =
    map-choice f (nat_lt (number (f y)) (number (f x))) (y ∷ put_by_number (λ z. number (f z)) x ys) (x ∷ y ∷ ys)
    ∙ ap (λ zs. if nat_lt (number (f y)) (number (f x)) then f y ∷ zs else f x ∷ f y ∷ map f ys) (map-put_by f number x ys)

map-rising_by : {X Y : Type 0} (f : X → Y) (number : Y → ℕ) (xs : List X)
    → map f (rising_by_number (λ x. number (f x)) xs) ≡ rising_by_number number (map f xs)
map-rising_by f number [] = refl
map-rising_by f number (x ∷ xs) =
    map-put_by f number x (rising_by_number (λ y. number (f y)) xs) ∙ ap (put_by_number number (f x)) (map-rising_by f number xs)

-- the positions of what passes, in rising order, are those in the list of the numbers
pub positions_back : (p : ℕ → Bool) (ns : List ℕ)
    → rising_by_number (λ k. k) (map (λ (q : Placed). q.at) (filter (λ (q : Placed). p q.change) (kept_of ns))) ≡ positions p 0 ns
positions_back p ns =
    sym (map-rising_by (λ (q : Placed). q.at) (λ k. k) (filter (λ (q : Placed). p q.change) (kept_of ns)))
    ∙ ap (map (λ (q : Placed). q.at)) (restored (λ (q : Placed). p q.change) ns)
    ∙ placed_positions p 0 ns
