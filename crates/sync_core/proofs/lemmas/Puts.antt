-- Items put in rising order, and what is found of them.
use Rattle.std.proofs.Common.{Ordering, Less, Equal, Greater, ◌≡◌, ℕ, Bool, true, false, cond, Option, None, Some, List, [], ◌∷◌, refl, sym, ap, ◌∙◌, subst}
use Rattle.std.proofs.Common.{map}
use Rattle.std.specs.List.{AllByRecursion, filter}
use Rattle.std.specs.Ordering.{nat_cmp, is_lt, match_ordering, ordering_reverse}
use Rattle.std.specs.Cmp.Lexicographic.{slice_cmp}
use Rattle.std.specs.FinMap.{slice_cmp-IsAntisymmetric, nat_cmp-IsAntisymmetric}
use Rattle.std.proofs.lemmas.Cmp.{nat_list_cmp_total}
use Rattle.std.specs.Str.{bytes_eq}
use Rattle.std.specs.Option.{option_or}
use Rattle.std.proofs.lemmas.Slice.Eq.{bytes_eq-Decides}
use Rattle.catalogue.proofs.lemmas.Rising.{comes_after}
use Rattle.catalogue.specs.Order.{is_before, IsRising}
use Rattle.sync_core.specs.Names.{put_in, put_all, at_text}

-- what the order of two texts says of the order of the two the other way round
pub turned : (x y : List ℕ) → slice_cmp nat_cmp x y ≡ ordering_reverse (slice_cmp nat_cmp y x)
turned x y = nat_list_cmp_total.antisymm x y

pub is_less : (o : Ordering) → is_lt o ≡ true → o ≡ Less
is_less Less h = refl
is_less Equal h = absurd (cc)
is_less Greater h = absurd (cc)

pub same_bytes : (x : List ℕ) → bytes_eq x x ≡ true
same_bytes x = (bytes_eq-Decides x x).1 refl

pub bytes_same : (x y : List ℕ) → bytes_eq x y ≡ true → x ≡ y
bytes_same x y = (bytes_eq-Decides x y).0

-- no text is before itself
not_equal : (x y : List ℕ) → is_before x y ≡ true → bytes_eq x y ≡ false
not_equal x y h = by (bytes_eq x y) refl
  where
    by : (b : Bool) → bytes_eq x y ≡ b → bytes_eq x y ≡ false
    by true e =
        let same : x ≡ y = bytes_same x y e in
        let here : is_before x x ≡ true = subst (λ z. is_before x z ≡ true) (sym same) h in
        let less : slice_cmp nat_cmp x x ≡ Less = is_less (slice_cmp nat_cmp x x) here in
        let more : slice_cmp nat_cmp x x ≡ Greater = turned x x ∙ ap ordering_reverse less in
        absurd (cc)
    by false e = e

pub before_trans : (x y z : List ℕ) → is_before x y ≡ true → is_before y z ≡ true → is_before x z ≡ true
before_trans x y z h k = ap is_lt (nat_list_cmp_total.trans x y z (is_less (slice_cmp nat_cmp x y) h) (is_less (slice_cmp nat_cmp y z) k))

abbrev pub Rising : {X : Type 0} → (X → List ℕ) → List X → Type 0
Rising text xs = IsRising (map text xs)

abbrev pub Before : List ℕ → List (List ℕ) → Type 0
Before x ys = AllByRecursion (λ y. is_before x y ≡ true) ys

pub before_all : (x y : List ℕ) (ys : List (List ℕ)) → is_before x y ≡ true → Before y ys → Before x ys
before_all x y [] h all = tt
before_all x y (z ∷ zs) h all = (before_trans x y z h all.0, before_all x y zs h all.1)

pub before_put : {X : Type 0} (text : X → List ℕ) (z : List ℕ) (x : X) (ys : List X) → is_before z (text x) ≡ true → Before z (map text ys)
    → Before z (map text (put_in text x ys))
before_put text z x [] h all = (h, tt)
before_put text z x (y ∷ ys) h all = by (before_put text z x ys h all.1) (slice_cmp nat_cmp (text y) (text x))
  where
    by : Before z (map text (put_in text x ys)) → (o : Ordering) → Before z (map text (match_ordering o (y ∷ put_in text x ys) (x ∷ ys) (x ∷ y ∷ ys)))
    by later Less = (all.0, later)
    by later Equal = (h, all.1)
    by later Greater = (h, all)

pub same_text : (x y : List ℕ) → slice_cmp nat_cmp x y ≡ Equal → x ≡ y
same_text x y e = slice_cmp-IsAntisymmetric nat_cmp-IsAntisymmetric x y e

pub rising_put : {X : Type 0} (text : X → List ℕ) (x : X) (ys : List X) → Rising text ys → Rising text (put_in text x ys)
rising_put text x [] r = (tt, tt)
rising_put text x (y ∷ ys) r = by (rising_put text x ys r.1) (slice_cmp nat_cmp (text y) (text x)) refl
  where
    by : Rising text (put_in text x ys) → (o : Ordering) → slice_cmp nat_cmp (text y) (text x) ≡ o
        → Rising text (match_ordering o (y ∷ put_in text x ys) (x ∷ ys) (x ∷ y ∷ ys))
    by later Less e = (before_put text (text y) x ys (ap is_lt e) r.0, later)
    by later Equal e = (subst (λ z. Before z (map text ys)) (same_text (text y) (text x) e) r.0, r.1)
    by later Greater e =
        let first : is_before (text x) (text y) ≡ true = ap is_lt (turned (text x) (text y) ∙ ap ordering_reverse e) in
        ((first, before_all (text x) (text y) (map text ys) first r.0), r)

pub rising_put_all : {X : Type 0} (text : X → List ℕ) (xs ys : List X) → Rising text ys → Rising text (put_all text xs ys)
rising_put_all text [] ys r = r
rising_put_all text (x ∷ xs) ys r = rising_put_all text xs (put_in text x ys) (rising_put text x ys r)

before_filter : {X : Type 0} (text : X → List ℕ) (p : X → Bool) (z : List ℕ) (ys : List X) → Before z (map text ys) → Before z (map text (filter p ys))
before_filter text p z [] all = tt
before_filter text p z (y ∷ ys) all = by (before_filter text p z ys all.1) (p y)
  where
    by : Before z (map text (filter p ys)) → (b : Bool) → Before z (map text (cond b (y ∷ filter p ys) (filter p ys)))
    by later true = (all.0, later)
    by later false = later

pub rising_filter : {X : Type 0} (text : X → List ℕ) (p : X → Bool) (ys : List X) → Rising text ys → Rising text (filter p ys)
rising_filter text p [] r = tt
rising_filter text p (y ∷ ys) r = by (rising_filter text p ys r.1) (p y)
  where
    by : Rising text (filter p ys) → (b : Bool) → Rising text (cond b (y ∷ filter p ys) (filter p ys))
    by later true = (before_filter text p (text y) ys r.0, later)
    by later false = later

-- what is found after a put
pub at_put : {X : Type 0} (text : X → List ℕ) (x : X) (ys : List X) (t : List ℕ)
    → at_text text (put_in text x ys) t ≡ cond (bytes_eq t (text x)) (Some x) (at_text text ys t)
at_put text x [] t = refl
at_put text x (y ∷ ys) t = by (at_put text x ys t) (slice_cmp nat_cmp (text y) (text x)) refl
  where
    equal : (a b : Bool) → bytes_eq t (text x) ≡ a → bytes_eq t (text y) ≡ b → text y ≡ text x
        → cond a (Some x) (at_text text ys t) ≡ cond a (Some x) (cond b (Some y) (at_text text ys t))
    equal true b e k same = refl
    equal false true e k same = let no : bytes_eq t (text y) ≡ false = subst (λ z. bytes_eq t z ≡ false) (sym same) e in absurd (cc)
    equal false false e k same = refl

    apart : (a b : Bool) → bytes_eq t (text x) ≡ a → bytes_eq t (text y) ≡ b → bytes_eq (text y) (text x) ≡ false
        → cond b (Some y) (cond a (Some x) (at_text text ys t)) ≡ cond a (Some x) (cond b (Some y) (at_text text ys t))
    apart true true e k other =
        let same : text y ≡ text x = sym (bytes_same t (text y) k) ∙ bytes_same t (text x) e in
        let yes : bytes_eq (text y) (text x) ≡ true = subst (λ z. bytes_eq (text y) z ≡ true) same (same_bytes (text y)) in
        absurd (cc)
    apart true false e k other = refl
    apart false b e k other = refl

    by : at_text text (put_in text x ys) t ≡ cond (bytes_eq t (text x)) (Some x) (at_text text ys t) → (o : Ordering) → slice_cmp nat_cmp (text y) (text x) ≡ o
        → at_text text (match_ordering o (y ∷ put_in text x ys) (x ∷ ys) (x ∷ y ∷ ys)) t ≡ cond (bytes_eq t (text x)) (Some x) (at_text text (y ∷ ys) t)
    by again Less e = ap (λ o. cond (bytes_eq t (text y)) (Some y) o) again
        ∙ apart (bytes_eq t (text x)) (bytes_eq t (text y)) refl refl (not_equal (text y) (text x) (ap is_lt e))
    by again Equal e = equal (bytes_eq t (text x)) (bytes_eq t (text y)) refl refl (same_text (text y) (text x) e)
    by again Greater e = refl

or_more : {X : Type 0} (a : Option X) (b : Bool) (x : X) (c : Option X) → option_or a (cond b (Some x) c) ≡ option_or (option_or a (cond b (Some x) None)) c
or_more (Some y) b x c = refl
or_more None true x c = refl
or_more None false x c = refl

-- what is found after several puts is the last that was put, or what was there
pub at_put_all : {X : Type 0} (text : X → List ℕ) (xs ys : List X) (t : List ℕ)
    → at_text text (put_all text xs ys) t ≡ option_or (at_text text (put_all text xs []) t) (at_text text ys t)
at_put_all text [] ys t = refl
at_put_all text (x ∷ xs) ys t =
    at_put_all text xs (put_in text x ys) t
    ∙ ap (option_or (at_text text (put_all text xs []) t)) (at_put text x ys t)
    ∙ or_more (at_text text (put_all text xs []) t) (bytes_eq t (text x)) x (at_text text ys t)
    ∙ ap (λ o. option_or o (at_text text ys t)) (sym (at_put_all text xs (x ∷ []) t))

not_found : {X : Type 0} (text : X → List ℕ) (x : List ℕ) (ys : List X) → Before x (map text ys) → at_text text ys x ≡ None
not_found text x [] all = refl
not_found text x (y ∷ ys) all = rw (not_equal x (text y) all.0) (not_found text x ys all.1)

-- what is found has the text
pub found_text : {X : Type 0} (text : X → List ℕ) (xs : List X) (t : List ℕ) (x : X) → at_text text xs t ≡ Some x → t ≡ text x
found_text text [] t x h = absurd (cc)
found_text text (y ∷ ys) t x h = by (found_text text ys t x) (bytes_eq t (text y)) refl h
  where
    by : (at_text text ys t ≡ Some x → t ≡ text x) → (b : Bool) → bytes_eq t (text y) ≡ b → cond b (Some y) (at_text text ys t) ≡ Some x → t ≡ text x
    by again true e k = let same : y ≡ x = cc in bytes_same t (text y) e ∙ ap text same
    by again false e k = again k

-- two rising lists in which the same is found are one
pub one_list : {X : Type 0} (text : X → List ℕ) (xs ys : List X) → Rising text xs → Rising text ys → ((t : List ℕ) → at_text text xs t ≡ at_text text ys t)
    → xs ≡ ys
one_list text [] [] r s h = refl
one_list text [] (y ∷ ys) r s h = let e : None ≡ Some y = h (text y) ∙ rw (same_bytes (text y)) in absurd (cc)
one_list text (x ∷ xs) [] r s h = let e : None ≡ Some x = sym (h (text x)) ∙ rw (same_bytes (text x)) in absurd (cc)
one_list text (x ∷ xs) (y ∷ ys) r s h = by (one_list text xs ys r.1 s.1) (bytes_eq (text x) (text y)) refl
  where
    here : at_text text (x ∷ xs) (text x) ≡ Some x
    here = rw (same_bytes (text x))

    there : at_text text (y ∷ ys) (text y) ≡ Some y
    there = rw (same_bytes (text y))

    rest : text x ≡ text y → (t : List ℕ) → at_text text xs t ≡ at_text text ys t
    rest same t = split (bytes_eq t (text x)) refl
      where
        split : (b : Bool) → bytes_eq t (text x) ≡ b → at_text text xs t ≡ at_text text ys t
        split true e =
            let is : text x ≡ t = sym (bytes_same t (text x) e) in
            subst (λ z. at_text text xs z ≡ None) is (not_found text (text x) xs r.0)
            ∙ sym (subst (λ z. at_text text ys z ≡ None) (sym same ∙ is) (not_found text (text y) ys s.0))
        split false e =
            let other : bytes_eq t (text y) ≡ false = subst (λ z. bytes_eq t z ≡ false) same e in
            sym (ap (λ b. cond b (Some x) (at_text text xs t)) e) ∙ h t ∙ ap (λ b. cond b (Some y) (at_text text ys t)) other

    by : (((t : List ℕ) → at_text text xs t ≡ at_text text ys t) → xs ≡ ys) → (b : Bool) → bytes_eq (text x) (text y) ≡ b → x ∷ xs ≡ y ∷ ys
    by again true e =
        let same : text x ≡ text y = bytes_same (text x) (text y) e in
        let found : Some x ≡ Some y = sym here ∙ h (text x) ∙ ap (at_text text (y ∷ ys)) same ∙ there in
        let one : x ≡ y = cc in
        let tail : xs ≡ ys = again (rest same) in
        cc
    by again false e = other (is_before (text y) (text x)) refl e
      where
        other : (b : Bool) → is_before (text y) (text x) ≡ b → bytes_eq (text x) (text y) ≡ false → x ∷ xs ≡ y ∷ ys
        other true k e =
            let none : at_text text (x ∷ xs) (text y) ≡ None = not_found text (text y) (x ∷ xs) (k, before_all (text y) (text x) (map text xs) k r.0) in
            let wrong : None ≡ Some y = sym none ∙ h (text y) ∙ there in
            absurd (cc)
        other false k e =
            let first : is_before (text x) (text y) ≡ true = comes_after (text x) (text y) k e in
            let none : at_text text (y ∷ ys) (text x) ≡ None = not_found text (text x) (y ∷ ys) (first, before_all (text x) (text y) (map text ys) first s.0) in
            let wrong : None ≡ Some x = sym none ∙ sym (h (text x)) ∙ here in
            absurd (cc)

pub put_by : {X : Type 0} (text : X → List ℕ) (x y : X) (ys : List X) (o : Ordering) → slice_cmp nat_cmp (text y) (text x) ≡ o
    → put_in text x (y ∷ ys) ≡ match_ordering o (y ∷ put_in text x ys) (x ∷ ys) (x ∷ y ∷ ys)
put_by text x y ys o e = ap (λ o. match_ordering o (y ∷ put_in text x ys) (x ∷ ys) (x ∷ y ∷ ys)) e

-- an item that stands before all that are put in stays in front
pub front_stays : {X : Type 0} (text : X → List ℕ) (x : X) (zs xs : List X) → Before (text x) (map text zs) → put_all text zs (x ∷ xs) ≡ x ∷ put_all text zs xs
front_stays text x [] xs h = refl
front_stays text x (z ∷ zs) xs h =
    ap (put_all text zs) (put_by text z x xs Less (is_less (slice_cmp nat_cmp (text x) (text z)) h.0)) ∙ front_stays text x zs (put_in text z xs) h.1

-- a rising list put in is itself
pub put_itself : {X : Type 0} (text : X → List ℕ) (xs : List X) → Rising text xs → put_all text xs [] ≡ xs
put_itself text [] r = refl
put_itself text (x ∷ xs) r = front_stays text x xs [] r.0 ∙ ap (λ l. x ∷ l) (put_itself text xs r.1)

-- a rising list put in is what was put in
pub put_rising : {X : Type 0} (text : X → List ℕ) (xs ys : List X) → Rising text ys → put_all text (put_all text xs []) ys ≡ put_all text xs ys
put_rising text xs ys r =
    let twice = put_all text xs [] in
    one_list text (put_all text twice ys) (put_all text xs ys) (rising_put_all text twice ys r) (rising_put_all text xs ys r)
    (λ t. at_put_all text twice ys t ∙ ap (λ l. option_or (at_text text l t) (at_text text ys t)) (put_itself text twice (rising_put_all text xs [] tt))
    ∙ sym (at_put_all text xs ys t))
