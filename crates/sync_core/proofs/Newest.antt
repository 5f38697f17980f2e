-- The first entry with the latest stamp, entry after entry.
use Rattle.std.proofs.Common.{◌≡◌, ℕ, ℤ, Bool, true, false, ◌&&◌, cond, Option, None, Some, List, [], ◌∷◌, ◌++◌, refl, sym, ap, ◌∙◌, subst, arith, int_le}
use Rattle.std.proofs.Common.{if◌then◌else◌, find, take, length, slice_index_or, ◌+◌, ◌<◌}
use Rattle.std.specs.List.{list_all}
use Rattle.std.specs.Option.{option_or}
use Rattle.std.proofs.lemmas.List.{take_more}
use Rattle.std.proofs.lemmas.Int.{by_lt_z, ints}
use Rattle.std.proofs.lemmas.List.Folds.{find-append, list_all-append}
use Rattle.json_forms.specs.declared.zone_list.ListZone.{ListZone}
use Rattle.sync_core.specs.Keeping.{later_of}
use Rattle.sync_core.specs.Published.{is_latest, newest}

abbrev stamp : ListZone → ℤ
stamp z = z.stamp.seconds

-- the newest of no entries is none, and of some is one
abbrev pub IsNewest : List ListZone → Option ListZone → Type 0
IsNewest zs None = zs ≡ []
IsNewest zs (Some z) = newest zs ≡ Some z

passes : {X : Type 0} (p : X → Bool) (xs : List X) (x : X) → find p xs ≡ Some x → p x ≡ true
passes p [] x h = absurd (cc)
passes p (y ∷ ys) x h = by (passes p ys x) (p y) refl h
  where
    by : (find p ys ≡ Some x → p x ≡ true) → (b : Bool) → p y ≡ b → cond b (Some y) (find p ys) ≡ Some x → p x ≡ true
    by later true e k = let same : y ≡ x = cc in subst (λ w. p w ≡ true) same e
    by later false e k = later k

-- a stricter test that the one found passes finds it too
find_both : {X : Type 0} (p q : X → Bool) (xs : List X) (x : X) → find p xs ≡ Some x → q x ≡ true → find (λ z. p z && q z) xs ≡ Some x
find_both p q [] x h t = absurd (cc)
find_both p q (y ∷ ys) x h t = by (p y) h (find_both p q ys x)
  where
    by : (b : Bool) → cond b (Some y) (find p ys) ≡ Some x → (find p ys ≡ Some x → q x ≡ true → find (λ z. p z && q z) ys ≡ Some x)
        → cond (b && q y) (Some y) (find (λ z. p z && q z) ys) ≡ Some x
    by true k again = let same : y ≡ x = cc in rw (same, t) refl
    by false k again = again k t

find_none : {X : Type 0} (p q : X → Bool) (xs : List X) → list_all q xs ≡ true → ((x : X) → q x ≡ true → p x ≡ false) → find p xs ≡ None
find_none p q [] all h = refl
find_none p q (y ∷ ys) all h = by (λ k. find_none p q ys k h) (q y) refl all
  where
    by : (list_all q ys ≡ true → find p ys ≡ None) → (b : Bool) → q y ≡ b → (b && list_all q ys) ≡ true → cond (p y) (Some y) (find p ys) ≡ None
    by later true e k = rw (h y e) (later k)
    by later false e k = absurd (cc)

find_same : {X : Type 0} (p q : X → Bool) (xs : List X) → ((x : X) → p x ≡ q x) → find p xs ≡ find q xs
find_same p q [] h = refl
find_same p q (y ∷ ys) h = rw (h y) (ap (λ o. cond (q y) (Some y) o) (find_same p q ys h))

all_more : {X : Type 0} (p q : X → Bool) (xs : List X) → list_all p xs ≡ true → ((x : X) → p x ≡ true → q x ≡ true) → list_all q xs ≡ true
all_more p q [] all h = refl
all_more p q (y ∷ ys) all h = by (λ k. all_more p q ys k h) (p y) refl all
  where
    by : (list_all p ys ≡ true → list_all q ys ≡ true) → (b : Bool) → p y ≡ b → (b && list_all p ys) ≡ true → (q y && list_all q ys) ≡ true
    by later true e k = rw (h y e) (later k)
    by later false e k = absurd (cc)

and_false : (a : Bool) → (a && false) ≡ false
and_false true = refl
and_false false = refl

and_true : (a b : Bool) → (a && (b && true)) ≡ (a && b)
and_true true true = refl
and_true true false = refl
and_true false b = refl

one_more : (xs : List ListZone) (x z : ListZone) → is_latest (xs ++ x ∷ []) z ≡ (is_latest xs z && int_le (stamp x) (stamp z))
one_more xs x z = list_all-append (λ (y : ListZone). int_le (stamp y) (stamp z)) xs (x ∷ []) ∙ and_true (is_latest xs z) (int_le (stamp x) (stamp z))

le_itself : (a : ℤ) → int_le a a ≡ true
le_itself a = by_lt_z a a (λ lt. absurd (grind (arith, ints))) (λ le. grind (arith, ints))

abbrev both : List ListZone → ListZone → ListZone → Bool
both xs x z = is_latest xs z && int_le (stamp x) (stamp z)

found_with : (xs : List ListZone) (x : ListZone) → newest (xs ++ x ∷ []) ≡ option_or (find (both xs x) xs) (find (both xs x) (x ∷ []))
found_with xs x =
    find_same (is_latest (xs ++ x ∷ [])) (both xs x) (xs ++ x ∷ []) (one_more xs x) ∙ find-append (both xs x) xs (x ∷ [])

older : (a b c : ℤ) → int_le a b ≡ false → int_le c b ≡ true → int_le a c ≡ false
older a b c h k = by_lt_z b a (λ lt. by_lt_z c a (λ later. grind (arith, ints)) (λ le. absurd (grind (arith, ints)))) (λ le. absurd (grind (arith, ints)))

earlier : (a b c : ℤ) → int_le a b ≡ false → int_le c b ≡ true → int_le c a ≡ true
earlier a b c h k = by_lt_z b a (λ lt. by_lt_z a c (λ later. absurd (grind (arith, ints))) (λ le. grind (arith, ints))) (λ le. absurd (grind (arith, ints)))

pub newest_next : (xs : List ListZone) (o : Option ListZone) (x : ListZone) → IsNewest xs o → newest (xs ++ x ∷ []) ≡ Some (later_of o x)
newest_next xs None x none =
    rw (none, le_itself (stamp x)) refl
newest_next xs (Some b) x is = by (int_le (stamp x) (stamp b)) refl
  where
    latest : is_latest xs b ≡ true
    latest = passes (is_latest xs) xs b is

    by : (t : Bool) → int_le (stamp x) (stamp b) ≡ t → newest (xs ++ x ∷ []) ≡ Some (if t then b else x)
    by true e =
        found_with xs x
        ∙ ap (λ o. option_or o (find (both xs x) (x ∷ []))) (find_both (is_latest xs) (λ (z : ListZone). int_le (stamp x) (stamp z)) xs b is e)
    by false e =
        let none : find (both xs x) xs ≡ None =
        find_none (both xs x) (λ (z : ListZone). int_le (stamp z) (stamp b)) xs latest
        (λ z le. rw (older (stamp x) (stamp b) (stamp z) e le) (and_false (is_latest xs z))) in
        let all : is_latest xs x ≡ true =
        all_more (λ (z : ListZone). int_le (stamp z) (stamp b)) (λ (z : ListZone). int_le (stamp z) (stamp x)) xs latest
        (λ z le. earlier (stamp x) (stamp b) (stamp z) e le) in
        found_with xs x ∙ rw (none, all, le_itself (stamp x)) refl

pub newest_step : (zs : List ListZone) (i : ℕ) (o : Option ListZone) (x y : ListZone) → i < length zs → x ≡ slice_index_or zs i x → IsNewest (take i zs) o
    → y ≡ later_of o x
    → newest (take (i + 1) zs) ≡ Some y
newest_step zs i o x y within item is later =
    ap newest (take_more zs i x within ∙ ap (λ (z : ListZone). take i zs ++ z ∷ []) (sym item)) ∙ newest_next (take i zs) o x is ∙ ap Some (sym later)
