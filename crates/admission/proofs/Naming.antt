-- The zone that has a name, by its place and among the zones.
use Rattle.std.proofs.Common.{◌≡◌, ℕ, suc, ◌+◌, ◌-◌, ◌≤◌, Bool, true, false, cond, ◌||◌, List, [], ◌∷◌, map, Option, None, Some, option_map}
use Rattle.std.proofs.Common.{slice_get, refl, sym, ap, ◌∙◌, subst, arith}
use Rattle.std.specs.List.{find, list_any, position_from, IsDistinct}
use Rattle.std.specs.Str.{bytes_eq}
use Rattle.catalogue.specs.Releases.{ContentData, ReleaseData, names_of, same_content}
use Rattle.catalogue.specs.Histories.{EntryData, entries_of, entry_of, last_release, meta}
use Rattle.catalogue.specs.Lookups.{contents_of, is_name_of, named, place_named, zones_of}
use Rattle.catalogue.proofs.AnyOrder.{Parts, parted}
use Rattle.catalogue.proofs.lemmas.SameZones.{other_content}

-- ---- by a place

not_before : {X : Type 0} (p : X → Bool) (k i : ℕ) (xs : List X) → position_from p k xs ≡ Some i → k ≤ i
not_before p k i [] e = absurd (cc)
not_before p k i (x ∷ xs) e = by (not_before p (k + 1) i xs) (p x) e
  where
    by : (position_from p (k + 1) xs ≡ Some i → k + 1 ≤ i) → (b : Bool) → cond b (Some k) (position_from p (k + 1) xs) ≡ Some i → k ≤ i
    by again true e = let same : k ≡ i = cc in omega arith
    by again false e = omega (arith, again e)

found_at : {X : Type 0} (p : X → Bool) (k i : ℕ) (xs : List X) (x : X) → position_from p k xs ≡ Some i → slice_get xs (i - k) ≡ Some x → find p xs ≡ Some x
found_at p k i [] x e at = absurd (cc)
found_at p k i (y ∷ ys) x e at = by (not_before p (k + 1) i ys) (found_at p (k + 1) i ys x) (p y) e
  where
    by : (position_from p (k + 1) ys ≡ Some i → k + 1 ≤ i)
        → (position_from p (k + 1) ys ≡ Some i → slice_get ys (i - (k + 1)) ≡ Some x → find p ys ≡ Some x)
        → (b : Bool) → cond b (Some k) (position_from p (k + 1) ys) ≡ Some i → cond b (Some y) (find p ys) ≡ Some x
    by later again true e =
        let same : k ≡ i = cc in
        let none : i - k ≡ 0 = omega arith in
        subst (λ n. slice_get (y ∷ ys) n ≡ Some x) none at
    by later again false e =
        let le = later e in
        let more : i - k ≡ suc (i - (k + 1)) = omega arith in
        again e (subst (λ n. slice_get (y ∷ ys) n ≡ Some x) more at)

missed : {X : Type 0} (p : X → Bool) (k : ℕ) (xs : List X) → position_from p k xs ≡ None → find p xs ≡ None
missed p k [] e = refl
missed p k (y ∷ ys) e = by (missed p (k + 1) ys) (p y) e
  where
    by : (position_from p (k + 1) ys ≡ None → find p ys ≡ None) → (b : Bool) → cond b (Some k) (position_from p (k + 1) ys) ≡ None
        → cond b (Some y) (find p ys) ≡ None
    by again true e = absurd (cc)
    by again false e = again e

find_map : {X Y : Type 0} (p : Y → Bool) (f : X → Y) (xs : List X) → find p (map f xs) ≡ option_map f (find (λ x. p (f x)) xs)
find_map p f [] = refl
find_map p f (x ∷ xs) = by (p (f x)) (find_map p f xs)
  where
    by : (b : Bool) → find p (map f xs) ≡ option_map f (find (λ y. p (f y)) xs)
        → cond b (Some (f x)) (find p (map f xs)) ≡ option_map f (cond b (Some x) (find (λ y. p (f y)) xs))
    by true again = refl
    by false again = again

contents_kept : (H : List ReleaseData) (r : ReleaseData) (cs : List ContentData) → map (λ (e : EntryData). e.content) (map (entry_of H r) cs) ≡ cs
contents_kept H r [] = refl
contents_kept H r (c ∷ cs) = ap (λ xs. c ∷ xs) (contents_kept H r cs)

zones_by : (H : List ReleaseData) (o : Option ReleaseData) → map (λ (e : EntryData). e.content) (entries_of H o) ≡ contents_of o
zones_by H None = refl
zones_by H (Some r) = contents_kept H r r.contents

zones_are : (H : List ReleaseData) → map (λ (e : EntryData). e.content) (meta H) ≡ zones_of H
unfolding meta
zones_are H = zones_by H (last_release H)

named_by : (H : List ReleaseData) (name : List ℕ) (o : Option EntryData) → find (λ (e : EntryData). is_name_of name e.content) (meta H) ≡ o
    → named (zones_of H) name ≡ option_map (λ (e : EntryData). e.content) o
named_by H name o is =
    ap (find (is_name_of name)) (sym (zones_are H)) ∙ find_map (is_name_of name) (λ (e : EntryData). e.content) (meta H)
    ∙ ap (option_map (λ (e : EntryData). e.content)) is

pub named_at : (H : List ReleaseData) (name : List ℕ) (i : ℕ) (e : EntryData) → Some i ≡ place_named H name → slice_get (meta H) i ≡ Some e
    → Some e.content ≡ named (zones_of H) name
unfolding place_named
named_at H name i e place at =
    let whole : i - 0 ≡ i = omega arith in
    sym (named_by H name (Some e) (found_at (λ (d : EntryData). is_name_of name d.content) 0 i (meta H) e (sym place)
    (subst (λ n. slice_get (meta H) n ≡ Some e) (sym whole) at)))

pub none_named : (H : List ReleaseData) (name : List ℕ) → None ≡ place_named H name → None ≡ named (zones_of H) name
unfolding place_named
none_named H name place = sym (named_by H name None (missed (λ (d : EntryData). is_name_of name d.content) 0 (meta H) (sym place)))

-- ---- and whether it is the same

first_false : (a b : Bool) → (a || b) ≡ false → a ≡ false
first_false false b h = refl
first_false true b h = absurd (cc)

other_name : (c d : ContentData) → is_name_of c.tzid d ≡ false → same_content c d ≡ false
other_name c d h = let other : bytes_eq c.tzid d.tzid ≡ false = first_false (bytes_eq c.tzid d.tzid) _ h in rw other refl

-- no zone that has the identifier: none is the same
pub none_same : (c : ContentData) (cs : List ContentData) → named cs c.tzid ≡ None → list_any (same_content c) cs ≡ false
none_same c [] e = refl
none_same c (d ∷ ds) e = by (none_same c ds) (is_name_of c.tzid d) refl e
  where
    by : (named ds c.tzid ≡ None → list_any (same_content c) ds ≡ false) → (b : Bool) → is_name_of c.tzid d ≡ b → cond b (Some d) (named ds c.tzid) ≡ None
        → list_any (same_content c) (d ∷ ds) ≡ false
    by again true n e = absurd (cc)
    by again false n e = rw (other_name c d n) (again e)

-- of zones with distinct names, the one that has the identifier decides
pub one_same : (c : ContentData) (cs : List ContentData) (had : ContentData) → IsDistinct bytes_eq (names_of cs) → named cs c.tzid ≡ Some had
    → list_any (same_content c) cs ≡ same_content c had
one_same c [] had distinct e = absurd (cc)
one_same c (d ∷ ds) had distinct e = by (one_same c ds had parts.back) (is_name_of c.tzid d) refl e
  where
    parts : Parts (d.tzid ∷ d.aliases) (names_of ds)
    parts = parted (d.tzid ∷ d.aliases) (names_of ds) distinct

    first : (b : Bool) → is_name_of c.tzid d ≡ true → same_content c d ≡ b → list_any (same_content c) (d ∷ ds) ≡ b
    first true n same = rw same refl
    first false n same =
        let place : position_from (is_name_of c.tzid) 0 (d ∷ ds) ≡ Some 0 = rw n refl in
        other_content c 0 0 (d ∷ ds) d distinct place same

    by : (named ds c.tzid ≡ Some had → list_any (same_content c) ds ≡ same_content c had) → (b : Bool) → is_name_of c.tzid d ≡ b
        → cond b (Some d) (named ds c.tzid) ≡ Some had → list_any (same_content c) (d ∷ ds) ≡ same_content c had
    by again true n e = let same : d ≡ had = cc in first (same_content c d) n refl ∙ ap (same_content c) same
    by again false n e = rw (other_name c d n) (again e)
