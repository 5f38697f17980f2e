-- Whether a release fits does not depend on the order in which its zones and their aliases stand.
use Rattle.std.proofs.Common.{◌≡◌, ℕ, ◌≤◌, ◌+◌, Bool, true, false, ◌&&◌, ◌||◌, if◌then◌else◌, Option, None, Some, IfSome, IsTrue, List, [], ◌∷◌, ◌++◌, length}
use Rattle.std.proofs.Common.{refl, sym, ◌∙◌, subst, map, arith, length-append, append_assoc}
use Rattle.std.specs.List.{AllByRecursion, IsDistinct, list_all, list_any}
use Rattle.std.specs.Str.{bytes_eq}
use Rattle.std.proofs.lemmas.List.{length-map}
use Rattle.std.proofs.lemmas.List.Folds.{list_all-append, list_any-append}
use Rattle.std.proofs.lemmas.Slice.Eq.{bytes_eq-Decides}
use Rattle.td_base.specs.Names.{is_identifier}
use Rattle.catalogue.specs.Order.{is_before, put_by, rising_by}
use Rattle.catalogue.specs.Releases.{ContentData, ReleaseData, names_of, content_as_is, content_data, release_as_is, release_data}
use Rattle.catalogue.specs.Histories.{Fits, last_release, has_name}
use Rattle.catalogue.specs.declared.limits.TheConstants.{MOST_NAMES}
use Rattle.catalogue.specs.declared.release.Release.{Release}
use Rattle.catalogue.specs.declared.release.Content.{Content}
use Rattle.catalogue.proofs.Lengths.{and-left, and-right}

-- a fact about names that stays where two neighbouring parts change places
abbrev pub Exchanges : (List (List ℕ) → Type 0) → Type 0
Exchanges Q = (front a b rest : List (List ℕ)) → Q (front ++ (a ++ (b ++ rest))) → Q (front ++ (b ++ (a ++ rest)))

put_zone : (Q : List (List ℕ) → Type 0) → Exchanges Q → (front : List (List ℕ)) (c : ContentData) (cs : List ContentData)
    → Q (front ++ ((c.tzid ∷ c.aliases) ++ names_of cs)) → Q (front ++ names_of (put_by (λ d. d.tzid) c cs))
put_zone Q e front c [] h = h
put_zone Q e front c (y ∷ ys) h =
    by (is_before y.tzid c.tzid)
    (subst Q (append_assoc front (y.tzid ∷ y.aliases) (names_of (put_by (λ d. d.tzid) c ys)))
    (put_zone Q e (front ++ (y.tzid ∷ y.aliases)) c ys
    (subst Q (sym (append_assoc front (y.tzid ∷ y.aliases) ((c.tzid ∷ c.aliases) ++ names_of ys)))
    (e front (c.tzid ∷ c.aliases) (y.tzid ∷ y.aliases) (names_of ys) h))))
  where
    by : (b : Bool) → Q (front ++ names_of (y ∷ put_by (λ d. d.tzid) c ys))
        → Q (front ++ names_of (if b then y ∷ put_by (λ d. d.tzid) c ys else c ∷ y ∷ ys))
    by true later = later
    by false later = h

sort_zones : (Q : List (List ℕ) → Type 0) → Exchanges Q → (front : List (List ℕ)) (cs : List ContentData)
    → Q (front ++ names_of cs) → Q (front ++ names_of (rising_by (λ d. d.tzid) cs))
sort_zones Q e front [] h = h
sort_zones Q e front (c ∷ cs) h =
    put_zone Q e front c (rising_by (λ d. d.tzid) cs)
    (subst Q (append_assoc front (c.tzid ∷ c.aliases) (names_of (rising_by (λ d. d.tzid) cs)))
    (sort_zones Q e (front ++ (c.tzid ∷ c.aliases)) cs
    (subst Q (sym (append_assoc front (c.tzid ∷ c.aliases) (names_of cs))) h)))

put_alias : (Q : List (List ℕ) → Type 0) → Exchanges Q → (front : List (List ℕ)) (x : List ℕ) (xs rest : List (List ℕ))
    → Q (front ++ (x ∷ (xs ++ rest))) → Q (front ++ (put_by (λ a. a) x xs ++ rest))
put_alias Q e front x [] rest h = h
put_alias Q e front x (y ∷ ys) rest h =
    by (is_before y x)
    (subst Q (append_assoc front (y ∷ []) (put_by (λ a. a) x ys ++ rest))
    (put_alias Q e (front ++ (y ∷ [])) x ys rest
    (subst Q (sym (append_assoc front (y ∷ []) (x ∷ (ys ++ rest))))
    (e front (x ∷ []) (y ∷ []) (ys ++ rest) h))))
  where
    by : (b : Bool) → Q (front ++ (y ∷ (put_by (λ a. a) x ys ++ rest)))
        → Q (front ++ ((if b then y ∷ put_by (λ a. a) x ys else x ∷ y ∷ ys) ++ rest))
    by true later = later
    by false later = h

sort_aliases : (Q : List (List ℕ) → Type 0) → Exchanges Q → (front xs rest : List (List ℕ))
    → Q (front ++ (xs ++ rest)) → Q (front ++ (rising_by (λ a. a) xs ++ rest))
sort_aliases Q e front [] rest h = h
sort_aliases Q e front (x ∷ xs) rest h =
    put_alias Q e front x (rising_by (λ a. a) xs) rest
    (subst Q (append_assoc front (x ∷ []) (rising_by (λ a. a) xs ++ rest))
    (sort_aliases Q e (front ++ (x ∷ [])) xs rest
    (subst Q (sym (append_assoc front (x ∷ []) (xs ++ rest))) h)))

all_aliases : {Z : Type 0} (bytes : Z → List ℕ) (Q : List (List ℕ) → Type 0) → Exchanges Q → (front : List (List ℕ)) (zones : List (Content Z))
    → Q (front ++ names_of (map (content_as_is bytes) zones)) → Q (front ++ names_of (map (content_data bytes) zones))
all_aliases bytes Q e front [] h = h
all_aliases bytes Q e front (z ∷ zs) h =
    subst Q (append_assoc front (z.tzid ∷ rising_by (λ a. a) z.aliases) (names_of (map (content_data bytes) zs)))
    (all_aliases bytes Q e (front ++ (z.tzid ∷ rising_by (λ a. a) z.aliases)) zs
    (subst Q (sym (append_assoc front (z.tzid ∷ rising_by (λ a. a) z.aliases) (names_of (map (content_as_is bytes) zs))))
    (subst Q (append_assoc front (z.tzid ∷ []) (rising_by (λ a. a) z.aliases ++ names_of (map (content_as_is bytes) zs)))
    (sort_aliases Q e (front ++ (z.tzid ∷ [])) z.aliases (names_of (map (content_as_is bytes) zs))
    (subst Q (sym (append_assoc front (z.tzid ∷ []) (z.aliases ++ names_of (map (content_as_is bytes) zs)))) h)))))

-- a fact about the names of zones as they stand, of the names of the release
pub in_any_order : {Z : Type 0} (bytes : Z → List ℕ) (Q : List (List ℕ) → Type 0) → Exchanges Q → (zones : List (Content Z))
    → Q (names_of (map (content_as_is bytes) zones)) → Q (names_of (rising_by (λ d. d.tzid) (map (content_data bytes) zones)))
in_any_order bytes Q e zones h = sort_zones Q e [] (map (content_data bytes) zones) (all_aliases bytes Q e [] zones h)

and_swapped : (p q r s : Bool) → (p && (q && (r && s))) ≡ (p && (r && (q && s)))
and_swapped true true true s = refl
and_swapped true true false s = refl
and_swapped true false true s = refl
and_swapped true false false s = refl
and_swapped false q r s = refl

pub all_exchanges : (p : List ℕ → Bool) → Exchanges (λ names. list_all p names ≡ true)
all_exchanges p front a b rest h =
    rw (list_all-append p front (b ++ (a ++ rest)), list_all-append p b (a ++ rest), list_all-append p a rest)
    (sym (and_swapped (list_all p front) (list_all p a) (list_all p b) (list_all p rest))
    ∙ sym (list_all-append p front (a ++ (b ++ rest)) ∙ rw (list_all-append p a (b ++ rest), list_all-append p b rest)) ∙ h)

pub length_exchanges : (most : ℕ) → Exchanges (λ names. length names ≤ most)
length_exchanges most front a b rest h =
    rw (length-append front (b ++ (a ++ rest)), length-append b (a ++ rest), length-append a rest)
    (omega (arith, length-append front (a ++ (b ++ rest)), length-append a (b ++ rest), length-append b rest, h))

-- each text of one list is none of the other
abbrev pub Apart : List (List ℕ) → List (List ℕ) → Type 0
Apart xs ys = AllByRecursion (λ x. AllByRecursion (λ y. bytes_eq x y ≡ false) ys) xs

bytes_turned : (x y : List ℕ) → bytes_eq x y ≡ false → bytes_eq y x ≡ false
bytes_turned x y h = by (bytes_eq y x) refl
  where
    by : (b : Bool) → bytes_eq y x ≡ b → bytes_eq y x ≡ false
    by true e =
        let same : bytes_eq x y ≡ true = (bytes_eq-Decides x y).1 (sym ((bytes_eq-Decides y x).0 e)) in
        absurd (cc)
    by false e = e

each_joined : (P : List ℕ → Type 0) (xs ys : List (List ℕ)) → AllByRecursion P xs → AllByRecursion P ys → AllByRecursion P (xs ++ ys)
each_joined P [] ys h k = k
each_joined P (x ∷ xs) ys h k = (h.0, each_joined P xs ys h.1 k)

each_parted : (P : List ℕ → Type 0) (xs ys : List (List ℕ)) → AllByRecursion P (xs ++ ys) → AllByRecursion P xs × AllByRecursion P ys
each_parted P [] ys h = (tt, h)
each_parted P (x ∷ xs) ys h = let rest = each_parted P xs ys h.1 in ((h.0, rest.0), rest.1)

pub record Parts (xs ys : List (List ℕ)) : Type 0 where
  pub front : IsDistinct bytes_eq xs
  pub back : IsDistinct bytes_eq ys
  pub apart : Apart xs ys

pub parted : (xs ys : List (List ℕ)) → IsDistinct bytes_eq (xs ++ ys) → Parts xs ys
unfolding IsDistinct
parted [] ys h = record { front = tt; back = h; apart = tt }
parted (x ∷ xs) ys h =
    let rest = parted xs ys h.1 in
    let both = each_parted (λ y. bytes_eq x y ≡ false) xs ys h.0 in
    record { front = (both.0, rest.front); back = rest.back; apart = (both.1, rest.apart) }

joined : (xs ys : List (List ℕ)) → Parts xs ys → IsDistinct bytes_eq (xs ++ ys)
unfolding IsDistinct
joined [] ys p = p.back
joined (x ∷ xs) ys p =
    (each_joined (λ y. bytes_eq x y ≡ false) xs ys p.front.0 p.apart.0, joined xs ys (record { front = p.front.1; back = p.back; apart = p.apart.1 }))

apart_one : (x : List ℕ) (xs ys : List (List ℕ)) → AllByRecursion (λ y. bytes_eq x y ≡ false) ys → Apart ys xs → Apart ys (x ∷ xs)
apart_one x xs [] h k = tt
apart_one x xs (y ∷ ys) h k = ((bytes_turned x y h.0, k.0), apart_one x xs ys h.1 k.1)

apart_none : (ys : List (List ℕ)) → Apart ys []
apart_none [] = tt
apart_none (y ∷ ys) = (tt, apart_none ys)

pub apart_turned : (xs ys : List (List ℕ)) → Apart xs ys → Apart ys xs
apart_turned [] ys h = apart_none ys
apart_turned (x ∷ xs) ys h = apart_one x xs ys h.0 (apart_turned xs ys h.1)

apart_parted : (xs ys zs : List (List ℕ)) → Apart xs (ys ++ zs) → Apart xs ys × Apart xs zs
apart_parted [] ys zs h = (tt, tt)
apart_parted (x ∷ xs) ys zs h =
    let both = each_parted (λ y. bytes_eq x y ≡ false) ys zs h.0 in
    let rest = apart_parted xs ys zs h.1 in
    ((both.0, rest.0), (both.1, rest.1))

apart_joined : (xs ys zs : List (List ℕ)) → Apart xs ys → Apart xs zs → Apart xs (ys ++ zs)
apart_joined [] ys zs h k = tt
apart_joined (x ∷ xs) ys zs h k = (each_joined (λ y. bytes_eq x y ≡ false) ys zs h.0 k.0, apart_joined xs ys zs h.1 k.1)

pub distinct_exchanges : Exchanges (IsDistinct bytes_eq)
distinct_exchanges front a b rest h =
    let all = parted front (a ++ (b ++ rest)) h in
    let p = parted a (b ++ rest) all.back in
    let q = parted b rest p.back in
    let outer = apart_parted front a (b ++ rest) all.apart in
    let outer_rest = apart_parted front b rest outer.1 in
    let inner = apart_parted a b rest p.apart in
    let left = joined a rest (record { front = p.front; back = q.back; apart = inner.1 }) in
    let both = joined b (a ++ rest) (record { front = q.front; back = left; apart = apart_joined b a rest (apart_turned a b inner.0) q.apart }) in
    joined front (b ++ (a ++ rest)) (record {
      front = all.front;
      back = both;
      apart = apart_joined front b (a ++ rest) outer_rest.0 (apart_joined front a rest outer.0 outer_rest.1);
    })

or_swapped : (p q r s : Bool) → (p || (q || (r || s))) ≡ (p || (r || (q || s)))
or_swapped false false false s = refl
or_swapped false false true s = refl
or_swapped false true false s = refl
or_swapped false true true s = refl
or_swapped true q r s = refl

pub any_exchanges : (p : List ℕ → Bool) → Exchanges (λ names. list_any p names ≡ true)
any_exchanges p front a b rest h =
    rw (list_any-append p front (b ++ (a ++ rest)), list_any-append p b (a ++ rest), list_any-append p a rest)
    (sym (or_swapped (list_any p front) (list_any p a) (list_any p b) (list_any p rest))
    ∙ sym (list_any-append p front (a ++ (b ++ rest)) ∙ rw (list_any-append p a (b ++ rest), list_any-append p b rest)) ∙ h)

length_put : {X : Type 0} (text : X → List ℕ) (x : X) (xs : List X) → length (put_by text x xs) ≡ length xs + 1
length_put text x [] = refl
length_put text x (y ∷ ys) = by (is_before (text y) (text x)) (length_put text x ys)
  where
    by : (b : Bool) → length (put_by text x ys) ≡ length ys + 1 → length (if b then y ∷ put_by text x ys else x ∷ y ∷ ys) ≡ length (y ∷ ys) + 1
    by true e = omega arith
    by false e = omega arith

pub length_rising_by : {X : Type 0} (text : X → List ℕ) (xs : List X) → length (rising_by text xs) ≡ length xs
length_rising_by text [] = refl
length_rising_by text (x ∷ xs) = omega (arith, length_put text x (rising_by text xs), length_rising_by text xs)

still_there : (p q : List ℕ → Bool) (names : List (List ℕ)) → ((n : List ℕ) → p n ≡ true → q n ≡ true) → list_all p names ≡ true → list_all q names ≡ true
still_there p q [] f h = refl
still_there p q (n ∷ ns) f h =
    rw (f n (and-left (p n) (list_all p ns) h)) (still_there p q ns f (and-right (p n) (list_all p ns) h))

kept_names : (old : Option ReleaseData) (r s : ReleaseData) → ((n : List ℕ) → has_name r n ≡ true → has_name s n ≡ true)
    → IfSome old (λ last. IsTrue (list_all (has_name r) (names_of last.contents)))
    → IfSome old (λ last. IsTrue (list_all (has_name s) (names_of last.contents)))
kept_names None r s f h = h
kept_names (Some last) r s f h = still_there (has_name r) (has_name s) (names_of last.contents) f h

-- a release that fits with its zones and aliases as they stand, fits in rising order
pub fits_in_any_order : {Z : Type 0} (bytes : Z → List ℕ) (H : List ReleaseData) (r : Release Z) → Fits H (release_as_is bytes r)
    → Fits H (release_data bytes r)
fits_in_any_order bytes H r fits = record {
  identifiers = in_any_order bytes (λ names. list_all is_identifier names ≡ true) (all_exchanges is_identifier) r.zones fits.identifiers;
  distinct = in_any_order bytes (IsDistinct bytes_eq) distinct_exchanges r.zones fits.distinct;
  stamp = fits.stamp;
  kept = kept_names (last_release H) (release_as_is bytes r) (release_data bytes r)
      (λ n. in_any_order bytes (λ names. list_any (bytes_eq n) names ≡ true) (any_exchanges (bytes_eq n)) r.zones) fits.kept;
  zones = omega (
    arith,
    fits.zones,
    length_rising_by (λ (d : ContentData). d.tzid) (map (content_data bytes) r.zones),
    length-map r.zones (content_data bytes),
    length-map r.zones (content_as_is bytes),
  );
  names = in_any_order bytes (λ names. length names ≤ MOST_NAMES) (length_exchanges MOST_NAMES) r.zones fits.names;
  places = fits.places;
}
