-- The rising list of all names finds the zone that has a name.
use Rattle.std.proofs.Common.{add-one, ◌⊎◌, inl, inr, ◌≡◌, ℕ, zero, suc, ◌+◌, ◌<◌, ◌≤◌, ◌||◌, Bool, true, false, cond, if◌then◌else◌, None, Some, List}
use Rattle.std.proofs.Common.{[], ◌∷◌, ◌++◌, length, map, refl, ap, sym, ◌∙◌, arith, get_or, Ordering, Less, Equal, Greater}
use Rattle.std.specs.Ordering.{nat_cmp, ordering_index}
use Rattle.std.specs.Cmp.Lexicographic.{slice_cmp}
use Rattle.std.specs.List.{AllByRecursion, IsDistinct, list_any, position_from}
use Rattle.std.specs.List.Sorted.{IsSortedBy, IsNonDecreasingBy, IsPartitionPoint}
use Rattle.std.specs.FinMap.{slice_cmp-IsAntisymmetric, nat_cmp-IsAntisymmetric}
use Rattle.std.proofs.lemmas.Bool.{cases_lt}
use Rattle.std.proofs.lemmas.Cmp.{nat_list_cmp_total, nat_list_eq_equiv, tied_itself}
use Rattle.std.proofs.lemmas.List.Sorted.{searchable_from_sorted}
use Rattle.std.specs.Str.{bytes_eq}
use Rattle.std.proofs.lemmas.Slice.Eq.{bytes_eq-Decides}
use Rattle.catalogue.specs.Order.{is_before, put_by, rising_by}
use Rattle.catalogue.specs.Releases.{ContentData, names_of}
use Rattle.catalogue.specs.Histories.{EntryData}
use Rattle.catalogue.specs.Lookups.{is_name_of}
use Rattle.catalogue.specs.HeldZones.{names_at, numbered}
use Rattle.catalogue.specs.declared.names.Name.{Name}
use Rattle.catalogue.proofs.lemmas.Rising.{NeverFalls, each_sorted, never_falls}
use Rattle.catalogue.proofs.AnyOrder.{Apart, apart_turned, parted}

-- ---- sorted lists

one_of : {X : Type 0} (text : X → List ℕ) (P : X → Type 0) (x : X) (xs : List X) → AllByRecursion P (put_by text x xs) → P x × AllByRecursion P xs
one_of text P x [] all = (all.0, tt)
one_of text P x (y ∷ ys) all = by (is_before (text y) (text x)) (one_of text P x ys) all
  where
    by : (b : Bool) → (AllByRecursion P (put_by text x ys) → P x × AllByRecursion P ys)
        → AllByRecursion P (if b then y ∷ put_by text x ys else x ∷ y ∷ ys) → P x × AllByRecursion P (y ∷ ys)
    by true more all = let rest = more all.1 in (rest.0, (all.0, rest.1))
    by false more all = (all.0, all.1)

-- what holds of each item in rising order holds of each item
pub each_unsorted : {X : Type 0} (text : X → List ℕ) (P : X → Type 0) (xs : List X) → AllByRecursion P (rising_by text xs) → AllByRecursion P xs
each_unsorted text P [] all = tt
each_unsorted text P (x ∷ xs) all =
    let parts = one_of text P x (rising_by text xs) all in
    (parts.0, each_unsorted text P xs parts.1)

-- ---- a name is found

-- whether a text is one of the names
abbrev pub is_one : List ℕ → List (List ℕ) → Bool
is_one name texts = list_any (bytes_eq name) texts

or_true : (b : Bool) → (b || true) ≡ true
or_true true = refl
or_true false = refl

none_of : (name : List ℕ) (texts : List (List ℕ)) → AllByRecursion (λ y. bytes_eq name y ≡ false) texts → is_one name texts ≡ false
none_of name [] all = refl
none_of name (x ∷ xs) all = rw all.0 (none_of name xs all.1)

-- all names of zones
abbrev pub joined_names : List (List (List ℕ)) → List (List ℕ)
joined_names [] = []
joined_names (texts ∷ rest) = texts ++ joined_names rest

-- a fact of all names, of the numbered names
each_at_number : (P : List ℕ → Type 0) (k : ℕ) (texts : List (List ℕ)) (rest : List Name)
    → AllByRecursion P texts → AllByRecursion (λ n. P n.text) rest → AllByRecursion (λ n. P n.text) (names_at k texts ++ rest)
each_at_number P k [] rest all more = more
each_at_number P k (x ∷ xs) rest all more = (all.0, each_at_number P k xs rest all.1 more)

first_part : (P : List ℕ → Type 0) (xs ys : List (List ℕ)) → AllByRecursion P (xs ++ ys) → AllByRecursion P xs × AllByRecursion P ys
first_part P [] ys all = (tt, all)
first_part P (x ∷ xs) ys all = let rest = first_part P xs ys all.1 in ((all.0, rest.0), rest.1)

each_numbered : (P : List ℕ → Type 0) (k : ℕ) (xss : List (List (List ℕ))) → AllByRecursion P (joined_names xss)
    → AllByRecursion (λ n. P n.text) (numbered k xss)
each_numbered P k [] all = tt
each_numbered P k (texts ∷ rest) all =
    let parts = first_part P texts (joined_names rest) all in
    each_at_number P k texts (numbered (k + 1) rest) parts.0 (each_numbered P (k + 1) rest parts.1)

-- the zone of this number is the first that has the name, where the zones are numbered from k on
abbrev pub IsFound : ℕ → List (List (List ℕ)) → Name → Type 0
IsFound k xss n = position_from (is_one n.text) k xss ≡ Some n.zone

here : (texts : List (List ℕ)) (rest : List (List (List ℕ))) (k : ℕ) (front xs : List (List ℕ)) → texts ≡ front ++ xs
    → AllByRecursion (IsFound k (texts ∷ rest)) (names_at k xs)
here texts rest k front [] is = tt
here texts rest k front (x ∷ xs) is =
    let there : is_one x texts ≡ true = rw is (any_there front x xs) in
    let one : IsFound k (texts ∷ rest) (record { text = x; zone = k }) = rw there in
    (one, here texts rest k (front ++ x ∷ []) xs (is ∙ sym (Rattle.std.proofs.Common.append_assoc front (x ∷ []) xs)))
  where
    any_there : (front : List (List ℕ)) (x : List ℕ) (xs : List (List ℕ)) → is_one x (front ++ x ∷ xs) ≡ true
    any_there [] x xs = rw (nat_list_eq_equiv.refl x)
    any_there (y ∷ ys) x xs = rw (any_there ys x xs) (or_true (bytes_eq x y))

later : (texts : List (List ℕ)) (rest : List (List (List ℕ))) (k : ℕ) (names : List Name)
    → AllByRecursion (λ n. is_one n.text texts ≡ false) names → AllByRecursion (IsFound (k + 1) rest) names → AllByRecursion (IsFound k (texts ∷ rest)) names
later texts rest k [] apart all = tt
later texts rest k (n ∷ ns) apart all = (rw apart.0 all.0, later texts rest k ns apart.1 all.1)

both_parts : (P : Name → Type 0) (xs ys : List Name) → AllByRecursion P xs → AllByRecursion P ys → AllByRecursion P (xs ++ ys)
both_parts P [] ys one two = two
both_parts P (x ∷ xs) ys one two = (one.0, both_parts P xs ys one.1 two)

not_in : (texts ys : List (List ℕ)) → Apart ys texts → AllByRecursion (λ y. is_one y texts ≡ false) ys
not_in texts [] apart = tt
not_in texts (y ∷ ys) apart = (none_of y texts apart.0, not_in texts ys apart.1)

each_found : (k : ℕ) (xss : List (List (List ℕ))) → IsDistinct bytes_eq (joined_names xss) → AllByRecursion (IsFound k xss) (numbered k xss)
each_found k [] distinct = tt
each_found k (texts ∷ rest) distinct =
    let parts = parted texts (joined_names rest) distinct in
    let apart = not_in texts (joined_names rest) (apart_turned texts (joined_names rest) parts.apart) in
    both_parts (IsFound k (texts ∷ rest)) (names_at k texts) (numbered (k + 1) rest)
    (here texts rest k [] texts refl)
    (later texts rest k (numbered (k + 1) rest) (each_numbered (λ y. is_one y texts ≡ false) (k + 1) rest apart) (each_found (k + 1) rest parts.back))

each_at : {X : Type 0} (P : X → Type 0) (xs : List X) (i : ℕ) (d : X) → i < length xs → AllByRecursion P xs → P (get_or xs i d)
each_at P [] i d lt all = absurd (omega arith)
each_at P (x ∷ xs) zero d lt all = all.0
each_at P (x ∷ xs) (suc i) d lt all = each_at P xs i d (omega arith) all.1

-- the zone of a name of the list is the first that has the name
pub name_found : (xss : List (List (List ℕ))) (i : ℕ) (d : Name) → IsDistinct bytes_eq (joined_names xss)
    → i < length (rising_by (λ n. n.text) (numbered 0 xss)) → IsFound 0 xss (get_or (rising_by (λ n. n.text) (numbered 0 xss)) i d)
name_found xss i d distinct lt =
    each_at (IsFound 0 xss) (rising_by (λ n. n.text) (numbered 0 xss)) i d lt
    (each_sorted (λ n. n.text) (IsFound 0 xss) (numbered 0 xss) (each_found 0 xss distinct))

-- ---- numbers are those of zones

below_at : (most k : ℕ) (texts : List (List ℕ)) → k < most → AllByRecursion (λ n. n.zone < most) (names_at k texts)
below_at most k [] lt = tt
below_at most k (x ∷ xs) lt = (lt, below_at most k xs lt)

below : (most k : ℕ) (xss : List (List (List ℕ))) → k + length xss ≤ most → AllByRecursion (λ n. n.zone < most) (numbered k xss)
below most k [] le = tt
below most k (texts ∷ rest) le =
    both_parts (λ n. n.zone < most) (names_at k texts) (numbered (k + 1) rest) (below_at most k texts (omega arith)) (below most (k + 1) rest (omega arith))

pub zone_is_there : (xss : List (List (List ℕ))) (i : ℕ) (d : Name) → i < length (rising_by (λ n. n.text) (numbered 0 xss))
    → (get_or (rising_by (λ n. n.text) (numbered 0 xss)) i d).zone < length xss
zone_is_there xss i d lt =
    each_at (λ n. n.zone < length xss) (rising_by (λ n. n.text) (numbered 0 xss)) i d lt
    (each_sorted (λ n. n.text) (λ n. n.zone < length xss) (numbered 0 xss) (below (length xss) 0 xss (omega arith)))

-- ---- no name is found

missed_here : (name : List ℕ) (k : ℕ) (texts : List (List ℕ)) (rest : List Name) → AllByRecursion (λ n. bytes_eq name n.text ≡ false) (names_at k texts ++ rest)
    → (is_one name texts ≡ false) × AllByRecursion (λ n. bytes_eq name n.text ≡ false) rest
missed_here name k [] rest all = (refl, all)
missed_here name k (x ∷ xs) rest all = let more = missed_here name k xs rest all.1 in (rw all.0 more.0, more.1)

missed : (name : List ℕ) (k : ℕ) (xss : List (List (List ℕ))) → AllByRecursion (λ n. bytes_eq name n.text ≡ false) (numbered k xss)
    → position_from (is_one name) k xss ≡ None
missed name k [] all = refl
missed name k (texts ∷ rest) all =
    let parts = missed_here name k texts (numbered (k + 1) rest) all in
    rw parts.0 (missed name (k + 1) rest parts.1)

pub name_missed : (name : List ℕ) (xss : List (List (List ℕ))) → AllByRecursion (λ n. bytes_eq name n.text ≡ false) (rising_by (λ n. n.text) (numbered 0 xss))
    → position_from (is_one name) 0 xss ≡ None
name_missed name xss all = missed name 0 xss (each_unsorted (λ n. n.text) (λ n. bytes_eq name n.text ≡ false) (numbered 0 xss) all)

-- ---- zones seen by their names

pub position-map : {X Y : Type 0} (p : Y → Bool) (f : X → Y) (k : ℕ) (xs : List X) → position_from p k (map f xs) ≡ position_from (λ x. p (f x)) k xs
position-map p f k [] = refl
position-map p f k (x ∷ xs) = ap (λ o. cond (p (f x)) (Some k) o) (position-map p f (k + 1) xs)

pub joined-names_of : (cs : List ContentData) → joined_names (map (λ c. c.tzid ∷ c.aliases) cs) ≡ names_of cs
joined-names_of [] = refl
joined-names_of (c ∷ cs) = ap (λ rest. c.tzid ∷ c.aliases ++ rest) (joined-names_of cs)

-- ---- entries seen by their names

abbrev pub entry_names : EntryData → List (List ℕ)
entry_names e = e.content.tzid ∷ e.content.aliases

-- the rising list of the names of entries
abbrev pub names_listed : List EntryData → List Name
names_listed es = rising_by (λ n. n.text) (numbered 0 (map entry_names es))

pub place_found : (es : List EntryData) (name : List ℕ) (i : ℕ) (d : Name) → IsDistinct bytes_eq (joined_names (map entry_names es))
    → i < length (names_listed es) → (get_or (names_listed es) i d).text ≡ name
    → Some (get_or (names_listed es) i d).zone ≡ position_from (λ e. is_name_of name e.content) 0 es
place_found es name i d distinct lt same =
    sym (name_found (map entry_names es) i d distinct lt)
    ∙ ap (λ t. position_from (is_one t) 0 (map entry_names es)) same
    ∙ position-map (is_one name) entry_names 0 es

pub place_missed : (es : List EntryData) (name : List ℕ) → AllByRecursion (λ n. bytes_eq name n.text ≡ false) (names_listed es)
    → None ≡ position_from (λ e. is_name_of name e.content) 0 es
place_missed es name all = sym (name_missed name (map entry_names es) all) ∙ position-map (is_one name) entry_names 0 es

-- ---- searching

-- how a name of the list compares with a text
abbrev pub compared : List ℕ → Name → Ordering
compared name n = slice_cmp nat_cmp n.text name

pub same_text : (name : List ℕ) (n : Name) → compared name n ≡ Equal → n.text ≡ name
same_text name n e = slice_cmp-IsAntisymmetric nat_cmp-IsAntisymmetric n.text name e

sorted_names : (ns : List Name) → NeverFalls (map (λ n. n.text) ns) → IsSortedBy (λ a b. is_before a.text b.text) ns
sorted_names [] h k d low lt = absurd (omega arith)
sorted_names (x ∷ []) h k d low lt = absurd (omega arith)
sorted_names (x ∷ y ∷ ys) h zero d low lt = h.0.0
sorted_names (x ∷ y ∷ ys) h (suc k) d low lt = rw (add-one (suc k)) (rw (add-one k) at (sorted_names (y ∷ ys) h.1 k d (omega arith) (omega arith)))

-- the list may be searched
pub searchable : (es : List EntryData) (name : List ℕ) → IsNonDecreasingBy (λ n. ordering_index (compared name n)) (names_listed es)
searchable es name =
    searchable_from_sorted nat_list_cmp_total (λ (n : Name). n.text) (names_listed es) name
    (sorted_names (names_listed es) (never_falls (λ n. n.text) (numbered 0 (map entry_names es))))

other_text : (name : List ℕ) (n : Name) → (compared name n ≡ Less) ⊎ (compared name n ≡ Greater) → bytes_eq name n.text ≡ false
other_text name n other = by (bytes_eq name n.text) refl other
  where
    equal : bytes_eq name n.text ≡ true → compared name n ≡ Equal
    equal e = ap (λ t. slice_cmp nat_cmp t name) (sym ((bytes_eq-Decides name n.text).0 e)) ∙ tied_itself nat_list_cmp_total name

    by : (b : Bool) → bytes_eq name n.text ≡ b → (compared name n ≡ Less) ⊎ (compared name n ≡ Greater) → bytes_eq name n.text ≡ false
    by false e h = e
    by true e (inl less) = let same = equal e in absurd (cc)
    by true e (inr greater) = let same = equal e in absurd (cc)

each_by_place : (P : Name → Type 0) (ns : List Name) → ((k : ℕ) (d : Name) → k < length ns → P (get_or ns k d)) → AllByRecursion P ns
each_by_place P [] h = tt
each_by_place P (x ∷ xs) h = (h 0 x (omega arith), each_by_place P xs (λ k d lt. h (suc k) d (omega arith)))

-- no name of the list is the text, where each before a place is less and each from there on is
-- greater
pub none_same : (name : List ℕ) (ns : List Name) (i : ℕ) → IsPartitionPoint (λ n. compared name n ≡ Less) (λ n. compared name n ≡ Greater) ns i
    → AllByRecursion (λ n. bytes_eq name n.text ≡ false) ns
none_same name ns i parts =
    each_by_place (λ n. bytes_eq name n.text ≡ false) ns
    (λ k d lt. elim (cases_lt k i) [
      | inl before ↦ other_text name (get_or ns k d) (inl (parts.0 k d (omega arith) before))
      | inr from ↦ other_text name (get_or ns k d) (inr (parts.1 k d from lt))
    ])
