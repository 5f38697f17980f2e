-- From one place of a history to its end: when a content last changed, and which names stay.
use Rattle.std.proofs.Common.{◌≡◌, ℕ, ◌+◌, ◌-◌, ◌<◌, ◌≤◌, Bool, true, false, cond, ◌&&◌, ◌||◌, Option, None, Some, IfSome, IsTrue, List, [], ◌∷◌, ◌++◌, length}
use Rattle.std.proofs.Common.{get_or, refl, sym, ap, ◌∙◌, subst, map, arith, nat_lt, length-append, append_assoc}
use Rattle.std.specs.Prelude.{reverse, option_map}
use Rattle.std.specs.List.{list_all, last_or, prefix_len, suffix_len}
use Rattle.std.specs.Str.{bytes_eq}
use Rattle.std.proofs.lemmas.List.{reverse-append, length-reverse, get_or_append_left, get_or_default}
use Rattle.std.proofs.lemmas.List.Folds.{list_all-append}
use Rattle.catalogue.proofs.lemmas.Growing.{prefix_all}
use Rattle.catalogue.specs.Releases.{ContentData, ReleaseData, names_of}
use Rattle.catalogue.specs.Histories.{IsHistory, EntryData, entry_from, entries_of, has_content, has_name, last_change, last_release, meta}
use Rattle.sync_world.proofs.Looks.{known}
use Rattle.actions.specs.Listing.{list_zone}
use Rattle.catalogue.specs.Lookups.{delta, zone_at}
use Rattle.sync_world.specs.Primaries.{list_told, changes_of}
use Rattle.sync_core.proofs.lemmas.Puts.{bytes_same}
use Rattle.sync_world.proofs.Zones.{Distinct, has_text, entries_by, listed_by, changed_by, known_all}

front_some : {X : Type 0} (p : X → Bool) (ys zs : List X) → list_all p ys ≡ false → prefix_len p (ys ++ zs) < length ys
front_some p [] zs h = absurd (cc)
front_some p (y ∷ ys) zs h = by (front_some p ys zs) (p y) refl h
  where
    by : (list_all p ys ≡ false → prefix_len p (ys ++ zs) < length ys) → (b : Bool) → p y ≡ b → (b && list_all p ys) ≡ false
        → cond b (1 + prefix_len p (ys ++ zs)) 0 < length (y ∷ ys)
    by again true e k = omega (arith, again k)
    by again false e k = omega arith

and_turned : (a b : Bool) → (a && b) ≡ (b && a)
and_turned true true = refl
and_turned true false = refl
and_turned false true = refl
and_turned false false = refl

and_true : (a : Bool) → (a && true) ≡ a
and_true true = refl
and_true false = refl

all_reverse : {X : Type 0} (p : X → Bool) (xs : List X) → list_all p (reverse xs) ≡ list_all p xs
all_reverse p [] = refl
all_reverse p (x ∷ xs) =
    ap (list_all p) (reverse-append (x ∷ []) xs) ∙ list_all-append p (reverse xs) (x ∷ [])
    ∙ ap (λ b. b && (p x && true)) (all_reverse p xs) ∙ ap (λ b. list_all p xs && b) (and_true (p x)) ∙ and_turned (list_all p xs) (p x)

back_all : {X : Type 0} (p : X → Bool) (xs ys : List X) → list_all p ys ≡ true → suffix_len p (xs ++ ys) ≡ length ys + suffix_len p xs
back_all p xs ys h =
    ap (prefix_len p) (reverse-append xs ys) ∙ prefix_all p (reverse ys) (reverse xs) (all_reverse p ys ∙ h)
    ∙ ap (λ n. n + suffix_len p xs) (length-reverse ys)

back_some : {X : Type 0} (p : X → Bool) (xs ys : List X) → list_all p ys ≡ false → suffix_len p (xs ++ ys) < length ys
back_some p xs ys h =
    let less = front_some p (reverse ys) (reverse xs) (all_reverse p ys ∙ h) in
    let same : suffix_len p (xs ++ ys) ≡ prefix_len p (reverse ys ++ reverse xs) = ap (prefix_len p) (reverse-append xs ys) in
    omega (arith, less, same, length-reverse ys)

-- a content that stands in each release from a place on
pub record Stays (A : List ReleaseData) (x : ReleaseData) (X : List ReleaseData) (c : ContentData) : Type 0 where
  pub same : last_change (A ++ x ∷ X) c ≡ last_change (A ++ x ∷ []) c
  pub before : last_change (A ++ x ∷ X) c ≤ length A + 1
  pub after : 1 ≤ last_change (A ++ x ∷ X) c

head_passes : {X : Type 0} (p : X → Bool) (x : X) (xs : List X) → list_all p (x ∷ xs) ≡ true → list_all p (x ∷ []) ≡ true
head_passes p x xs h = by (p x) refl h
  where
    by : (b : Bool) → p x ≡ b → (b && list_all p xs) ≡ true → (b && true) ≡ true
    by true e k = refl
    by false e k = absurd (cc)

pub stays : (A : List ReleaseData) (x : ReleaseData) (X : List ReleaseData) (c : ContentData) → list_all (has_content c) (x ∷ X) ≡ true → Stays A x X c
unfolding last_change
stays A x X c h =
    let all = back_all (has_content c) A (x ∷ X) h in
    let one = back_all (has_content c) A (x ∷ []) (head_passes (has_content c) x X h) in
    let long = length-append A (x ∷ X) in
    let short = length-append A (x ∷ []) in
    record { same = omega (arith, all, one, long, short); before = omega (arith, all, long); after = omega arith }

pub changes : (A : List ReleaseData) (x : ReleaseData) (X : List ReleaseData) (c : ContentData) → list_all (has_content c) (x ∷ X) ≡ false
    → length A + 1 < last_change (A ++ x ∷ X) c
unfolding last_change
changes A x X c h = omega (arith, back_some (has_content c) A (x ∷ X) h, length-append A (x ∷ X))

-- the last release, from a place on
abbrev pub end : ReleaseData → List ReleaseData → ReleaseData
end x [] = x
end x (y ∷ ys) = end y ys

pub last_is : (A : List ReleaseData) (o : Option ReleaseData) (x : ReleaseData) (X : List ReleaseData) → last_or o (A ++ x ∷ X) ≡ Some (end x X)
last_is [] o x [] = refl
last_is [] o x (y ∷ ys) = last_is [] (Some x) y ys
last_is (a ∷ A) o x X = last_is A (Some a) x X

pub end_passes : (p : ReleaseData → Bool) (x : ReleaseData) (X : List ReleaseData) → list_all p (x ∷ X) ≡ true → p (end x X) ≡ true
end_passes p x [] h = by (p x) refl h
  where
    by : (b : Bool) → p x ≡ b → (b && true) ≡ true → p x ≡ true
    by true e k = e
    by false e k = absurd (cc)
end_passes p x (y ∷ ys) h = end_passes p y ys (by (p x) refl h)
  where
    by : (b : Bool) → p x ≡ b → (b && list_all p (y ∷ ys)) ≡ true → list_all p (y ∷ ys) ≡ true
    by true e k = k
    by false e k = absurd (cc)

each_named : (q : List ℕ → Bool) (xs : List (List ℕ)) (t : List ℕ) → list_all q xs ≡ true → has_text xs t ≡ true → q t ≡ true
each_named q [] t h k = absurd (cc)
each_named q (x ∷ xs) t h k = by (each_named q xs t) (q x) refl h
  where
    found : (list_all q xs ≡ true → has_text xs t ≡ true → q t ≡ true) → q x ≡ true → list_all q xs ≡ true → (b : Bool) → bytes_eq t x ≡ b
        → (b || has_text xs t) ≡ true → q t ≡ true
    found again e all true same l = subst (λ z. q z ≡ true) (sym (bytes_same t x same)) e
    found again e all false same l = again all l

    by : (list_all q xs ≡ true → has_text xs t ≡ true → q t ≡ true) → (b : Bool) → q x ≡ b → (b && list_all q xs) ≡ true → q t ≡ true
    by again true e l = found again e l (bytes_eq t x) refl k
    by again false e l = absurd (cc)

-- the releases from a place on, each one further
pub moved : (sound : ReleaseData → Type 0) (A : List ReleaseData) (x y : ReleaseData) (Y : List ReleaseData)
    → IsHistory sound (A ++ x ∷ y ∷ Y) → IsHistory sound ((A ++ x ∷ []) ++ y ∷ Y)
moved sound A x y Y h = subst (IsHistory sound) (sym (append_assoc A (x ∷ []) (y ∷ Y))) h

pub ends_distinct : (sound : ReleaseData → Type 0) (A : List ReleaseData) (x : ReleaseData) (X : List ReleaseData)
    → IsHistory sound (A ++ x ∷ X) → Distinct (end x X).contents
ends_distinct sound A x [] h = (h A x [] refl).fits.distinct
ends_distinct sound A x (y ∷ Y) h = ends_distinct sound (A ++ x ∷ []) y Y (moved sound A x y Y h)

pub starts_distinct : (sound : ReleaseData → Type 0) (A : List ReleaseData) (x : ReleaseData) (X : List ReleaseData)
    → IsHistory sound (A ++ x ∷ X) → Distinct x.contents
starts_distinct sound A x X h = (h A x X refl).fits.distinct

next_named : (sound : ReleaseData → Type 0) (A : List ReleaseData) (x y : ReleaseData) (Y : List ReleaseData)
    → IsHistory sound ((A ++ x ∷ []) ++ y ∷ Y) → (t : List ℕ) → has_text (names_of x.contents) t ≡ true → has_text (names_of y.contents) t ≡ true
next_named sound A x y Y h t k =
    let kept : IfSome (last_release (A ++ x ∷ [])) (λ last. IsTrue (list_all (has_name y) (names_of last.contents))) = (h (A ++ x ∷ []) y Y refl).fits.kept in
    let all : IfSome (Some x) (λ (last : ReleaseData). IsTrue (list_all (has_name y) (names_of last.contents))) =
    subst (λ o. IfSome o (λ (last : ReleaseData). IsTrue (list_all (has_name y) (names_of last.contents)))) (last_is A None x []) kept in
    each_named (has_name y) (names_of x.contents) t all k

pub still_named : (sound : ReleaseData → Type 0) (A : List ReleaseData) (x : ReleaseData) (X : List ReleaseData)
    → IsHistory sound (A ++ x ∷ X) → (t : List ℕ) → has_text (names_of x.contents) t ≡ true → has_text (names_of (end x X).contents) t ≡ true
still_named sound A x [] h t k = k
still_named sound A x (y ∷ Y) h t k =
    still_named sound (A ++ x ∷ []) y Y (moved sound A x y Y h) t (next_named sound A x y Y (moved sound A x y Y h) t k)

-- the release and the place of an entry, over the whole history
abbrev pub at_change : List ReleaseData → ReleaseData → ContentData → ReleaseData
at_change H last c = get_or H (last_change H c - 1) last

pub list_is : (A : List ReleaseData) (x : ReleaseData) (X : List ReleaseData)
    → list_told (A ++ x ∷ X) ≡ map list_zone (entries_by (at_change (A ++ x ∷ X) (end x X)) (last_change (A ++ x ∷ X)) (end x X).contents)
unfolding list_told meta
list_is A x X = ap (λ o. map list_zone (entries_of (A ++ x ∷ X) o)) (last_is A None x X)

pub changes_are : (A : List ReleaseData) (x : ReleaseData) (X : List ReleaseData) (n : ℕ)
    → changes_of (A ++ x ∷ X) n ≡ changed_by (at_change (A ++ x ∷ X) (end x X)) (last_change (A ++ x ∷ X)) n (end x X).contents
unfolding changes_of delta meta
changes_are A x X n =
    ap (λ o. map list_zone (Rattle.std.specs.List.filter (λ (e : EntryData). nat_lt n e.changed) (entries_of (A ++ x ∷ X) o))) (last_is A None x X)

-- what the list of a whole history says of a name
pub known_is : (A : List ReleaseData) (x : ReleaseData) (X : List ReleaseData) (t : List ℕ)
    → known (list_told (A ++ x ∷ X)) t ≡ option_map (listed_by (at_change (A ++ x ∷ X) (end x X)) (last_change (A ++ x ∷ X))) (zone_at (end x X).contents t)
known_is A x X t =
    ap (λ zones. known zones t) (list_is A x X)
    ∙ known_all (at_change (A ++ x ∷ X) (end x X)) (last_change (A ++ x ∷ X)) (end x X).contents t

pub same_release : (A : List ReleaseData) (x : ReleaseData) (X : List ReleaseData) (c : ContentData) → Stays A x X c
    → at_change (A ++ x ∷ []) x c ≡ at_change (A ++ x ∷ X) (end x X) c
same_release A x X c s =
    let place : ℕ = last_change (A ++ x ∷ X) c - 1 in
    let within : last_change (A ++ x ∷ X) c - 1 < length (A ++ x ∷ []) = omega (arith, s.before, s.after, length-append A (x ∷ [])) in
    ap (λ n. get_or (A ++ x ∷ []) (n - 1) x) (sym s.same)
    ∙ get_or_default (A ++ x ∷ []) (last_change (A ++ x ∷ X) c - 1) x (end x X) within
    ∙ sym (get_or_append_left (A ++ x ∷ []) X (end x X) (last_change (A ++ x ∷ X) c - 1) within)
    ∙ ap (λ H. get_or H (last_change (A ++ x ∷ X) c - 1) (end x X)) (append_assoc A (x ∷ []) X)

pub same_listed : (A : List ReleaseData) (x : ReleaseData) (X : List ReleaseData) (c : ContentData) → Stays A x X c
    → listed_by (at_change (A ++ x ∷ []) x) (last_change (A ++ x ∷ [])) c ≡ listed_by (at_change (A ++ x ∷ X) (end x X)) (last_change (A ++ x ∷ X)) c
same_listed A x X c s = ap (λ r. list_zone (entry_from r (last_change (A ++ x ∷ []) c) c)) (same_release A x X c s)
