-- Sorting puts distinct texts in rising order.
use Rattle.std.proofs.Common.{Ordering, Less, Equal, Greater, ◌≡◌, ℕ, Bool, true, false, if◌then◌else◌, List, [], ◌∷◌, ◌++◌, refl, ap, ◌∙◌, subst, map}
use Rattle.std.specs.Ordering.{nat_cmp, is_lt, ordering_reverse}
use Rattle.std.specs.Cmp.Lexicographic.{slice_cmp}
use Rattle.std.specs.FinMap.{slice_cmp-IsAntisymmetric, nat_cmp-IsAntisymmetric}
use Rattle.std.proofs.lemmas.Cmp.{nat_list_cmp_total}
use Rattle.std.specs.Bool.{⊤}
use Rattle.std.specs.List.{AllByRecursion, IsDistinct}
use Rattle.std.specs.Str.{bytes_eq}
use Rattle.std.proofs.lemmas.Slice.Eq.{bytes_eq-Decides}
use Rattle.catalogue.specs.Order.{is_before, put_by, rising_by, IsRising}
use Rattle.catalogue.specs.Releases.{ContentData, IsInOrder, names_of, content_data, release_data}
use Rattle.catalogue.specs.declared.release.Content.{Content}
use Rattle.catalogue.specs.declared.release.Release.{Release}
use Rattle.catalogue.proofs.Lengths.{each_mapped}

-- what the order of two texts says of the order of the two the other way round
turned : (x y : List ℕ) → slice_cmp nat_cmp x y ≡ ordering_reverse (slice_cmp nat_cmp y x)
turned x y = nat_list_cmp_total.antisymm x y

lt-less : (o : Ordering) → is_lt o ≡ true → o ≡ Less
lt-less Less h = refl
lt-less Equal h = absurd (cc)
lt-less Greater h = absurd (cc)

-- a text that is not before another, and is another, comes after it
pub comes_after : (x y : List ℕ) → is_before y x ≡ false → bytes_eq x y ≡ false → is_before x y ≡ true
comes_after x y not_before other = by (slice_cmp nat_cmp x y) refl
  where
    by : (o : Ordering) → slice_cmp nat_cmp x y ≡ o → is_before x y ≡ true
    by Less e = ap is_lt e
    by Equal e =
        let same : x ≡ y = slice_cmp-IsAntisymmetric nat_cmp-IsAntisymmetric x y e in
        let equal : bytes_eq x y ≡ true = (bytes_eq-Decides x y).1 same in
        absurd (cc)
    by Greater e =
        let before : is_before y x ≡ true = ap is_lt (turned y x ∙ ap ordering_reverse e) in
        absurd (cc)

-- whatever is before a text is before what is not before that text
before_more : (x y z : List ℕ) → is_before z x ≡ true → is_before y x ≡ false → is_before z y ≡ true
before_more x y z zx yx = by (slice_cmp nat_cmp x y) refl
  where
    by : (o : Ordering) → slice_cmp nat_cmp x y ≡ o → is_before z y ≡ true
    by Less e = ap is_lt (nat_list_cmp_total.trans z x y (lt-less (slice_cmp nat_cmp z x) zx) e)
    by Equal e = subst (λ w. is_before z w ≡ true) (slice_cmp-IsAntisymmetric nat_cmp-IsAntisymmetric x y e) zx
    by Greater e =
        let before : is_before y x ≡ true = ap is_lt (turned y x ∙ ap ordering_reverse e) in
        absurd (cc)

-- no text is before one that stands before it
abbrev pub NeverFalls : List (List ℕ) → Type 0
NeverFalls [] = ⊤
NeverFalls (x ∷ xs) = AllByRecursion (λ y. is_before y x ≡ false) xs × NeverFalls xs

mapped : {X Y : Type 0} (f : X → Y) (P : Y → Type 0) (xs : List X) → AllByRecursion (λ x. P (f x)) xs → AllByRecursion P (map f xs)
mapped f P [] h = tt
mapped f P (x ∷ xs) h = (h.0, mapped f P xs h.1)

each_put : {X : Type 0} (text : X → List ℕ) (P : X → Type 0) (x : X) (xs : List X) → P x → AllByRecursion P xs → AllByRecursion P (put_by text x xs)
each_put text P x [] h all = (h, tt)
each_put text P x (y ∷ ys) h all = by (is_before (text y) (text x)) (each_put text P x ys h all.1)
  where
    by : (b : Bool) → AllByRecursion P (put_by text x ys) → AllByRecursion P (if b then y ∷ put_by text x ys else x ∷ y ∷ ys)
    by true later = (all.0, later)
    by false later = (h, all)

pub each_sorted : {X : Type 0} (text : X → List ℕ) (P : X → Type 0) (xs : List X) → AllByRecursion P xs → AllByRecursion P (rising_by text xs)
each_sorted text P [] all = tt
each_sorted text P (x ∷ xs) all = each_put text P x (rising_by text xs) all.0 (each_sorted text P xs all.1)

pub not_before_itself : (x y : List ℕ) → is_before y x ≡ true → is_before x y ≡ false
not_before_itself x y h = by (slice_cmp nat_cmp x y) refl
  where
    by : (o : Ordering) → slice_cmp nat_cmp x y ≡ o → is_before x y ≡ false
    by Less e =
        let other : is_before y x ≡ false = ap is_lt (turned y x ∙ ap ordering_reverse e) in
        absurd (cc)
    by Equal e = ap is_lt e
    by Greater e = ap is_lt e

pub none_before : (x y : List ℕ) (ys : List (List ℕ)) → is_before y x ≡ false → AllByRecursion (λ z. is_before z y ≡ false) ys
    → AllByRecursion (λ z. is_before z x ≡ false) ys
none_before x y [] h all = tt
none_before x y (z ∷ zs) h all = (by (is_before z x) refl, none_before x y zs h all.1)
  where
    by : (b : Bool) → is_before z x ≡ b → is_before z x ≡ false
    by true e = let more = before_more x y z e h in absurd (cc (all.0))
    by false e = e

never_falls_put : {X : Type 0} (text : X → List ℕ) (x : X) (xs : List X) → NeverFalls (map text xs) → NeverFalls (map text (put_by text x xs))
never_falls_put text x [] h = (tt, tt)
never_falls_put text x (y ∷ ys) h = by (is_before (text y) (text x)) refl (never_falls_put text x ys h.1)
  where
    by : (b : Bool) → is_before (text y) (text x) ≡ b → NeverFalls (map text (put_by text x ys))
        → NeverFalls (map text (if b then y ∷ put_by text x ys else x ∷ y ∷ ys))
    by true e later = (
      mapped text (λ z. is_before z (text y) ≡ false) (put_by text x ys)
          (each_put text (λ z. is_before (text z) (text y) ≡ false) x ys (not_before_itself (text x) (text y) e)
          (each_mapped text (λ z. is_before z (text y) ≡ false) ys h.0)),
      later,
    )
    by false e later = ((e, none_before (text x) (text y) (map text ys) e h.0), h)

pub never_falls : {X : Type 0} (text : X → List ℕ) (xs : List X) → NeverFalls (map text (rising_by text xs))
never_falls text [] = tt
never_falls text (x ∷ xs) = never_falls_put text x (rising_by text xs) (never_falls text xs)

all_before : (x : List ℕ) (ys : List (List ℕ)) → AllByRecursion (λ y. is_before y x ≡ false) ys → AllByRecursion (λ y. bytes_eq x y ≡ false) ys
    → AllByRecursion (λ y. is_before x y ≡ true) ys
all_before x [] h d = tt
all_before x (y ∷ ys) h d = (comes_after x y h.0 d.0, all_before x ys h.1 d.1)

pub rises : (xs : List (List ℕ)) → NeverFalls xs → IsDistinct bytes_eq xs → IsRising xs
unfolding IsDistinct
rises [] h d = tt
rises (x ∷ xs) h d = (all_before x xs h.0 d.0, rises xs h.1 d.1)

each_of_both : (P : List ℕ → Type 0) (xs ys : List (List ℕ)) → AllByRecursion P (xs ++ ys) → AllByRecursion P xs × AllByRecursion P ys
each_of_both P [] ys h = (tt, h)
each_of_both P (x ∷ xs) ys h = let rest = each_of_both P xs ys h.1 in ((h.0, rest.0), rest.1)

distinct_both : (xs ys : List (List ℕ)) → IsDistinct bytes_eq (xs ++ ys) → IsDistinct bytes_eq xs × IsDistinct bytes_eq ys
unfolding IsDistinct
distinct_both [] ys h = (tt, h)
distinct_both (x ∷ xs) ys h =
    let rest = distinct_both xs ys h.1 in
    (((each_of_both (λ y. bytes_eq x y ≡ false) xs ys h.0).0, rest.0), rest.1)

each_tzid : (P : List ℕ → Type 0) (cs : List ContentData) → AllByRecursion P (names_of cs) → AllByRecursion P (map (λ c. c.tzid) cs)
each_tzid P [] h = tt
each_tzid P (c ∷ cs) h = (h.0, each_tzid P cs (each_of_both P c.aliases (names_of cs) h.1).1)

distinct_tzids : (cs : List ContentData) → IsDistinct bytes_eq (names_of cs) → IsDistinct bytes_eq (map (λ c. c.tzid) cs)
unfolding IsDistinct
distinct_tzids [] h = tt
distinct_tzids (c ∷ cs) h =
    let later = each_of_both (λ y. bytes_eq c.tzid y ≡ false) c.aliases (names_of cs) h.0 in
    (each_tzid (λ y. bytes_eq c.tzid y ≡ false) cs later.1, distinct_tzids cs (distinct_both c.aliases (names_of cs) h.1).1)

rising_aliases : (cs : List ContentData) → AllByRecursion (λ c. NeverFalls c.aliases) cs → IsDistinct bytes_eq (names_of cs)
    → AllByRecursion (λ c. IsRising c.aliases) cs
unfolding IsDistinct
rising_aliases [] h d = tt
rising_aliases (c ∷ cs) h d =
    let both = distinct_both c.aliases (names_of cs) d.1 in
    (rises c.aliases h.0 both.0, rising_aliases cs h.1 both.1)

mapped_ids : (xs : List (List ℕ)) → map (λ x. x) xs ≡ xs
mapped_ids [] = refl
mapped_ids (x ∷ xs) = ap (λ ys. x ∷ ys) (mapped_ids xs)

sorted_aliases : {Z : Type 0} (bytes : Z → List ℕ) (zones : List (Content Z)) → AllByRecursion (λ c. NeverFalls c.aliases) (map (content_data bytes) zones)
sorted_aliases bytes [] = tt
sorted_aliases bytes (z ∷ zs) =
    (subst NeverFalls (mapped_ids (rising_by (λ a. a) z.aliases)) (never_falls (λ a. a) z.aliases), sorted_aliases bytes zs)

-- a release whose names are distinct is in order
pub in_order : {Z : Type 0} (bytes : Z → List ℕ) (r : Release Z) → IsDistinct bytes_eq (names_of (release_data bytes r).contents)
    → IsInOrder (release_data bytes r)
in_order bytes r d =
    let cs = (release_data bytes r).contents in
    record {
      contents = rises (map (λ c. c.tzid) cs) (never_falls (λ c. c.tzid) (map (content_data bytes) r.zones)) (distinct_tzids cs d);
      aliases = rising_aliases cs (each_sorted (λ c. c.tzid) (λ c. NeverFalls c.aliases) (map (content_data bytes) r.zones) (sorted_aliases bytes r.zones)) d;
    }
