-- The names of a release are those of its zones as they stand, in another order.
use Rattle.std.proofs.Common.{◌≡◌, ℕ, suc, Bool, true, false, if◌then◌else◌, List, [], ◌∷◌, ◌++◌}
use Rattle.std.proofs.Common.{length, ap, refl, append_assoc, IsPermutation}
use Rattle.std.specs.List.{list_all}
use Rattle.std.proofs.lemmas.List.Sorted.{IsPermutation-refl, IsPermutation-cons}
use Rattle.std.proofs.lemmas.List.Sorted.{IsPermutation-trans, IsPermutation-append}
use Rattle.std.proofs.lemmas.List.Sorted.{IsPermutation-append_left, IsPermutation-append_right}
use Rattle.std.proofs.lemmas.List.Sorted.{IsPermutation-append_comm, IsPermutation-middle}
use Rattle.std.proofs.lemmas.List.Sorted.{All-permutation}
use Rattle.std.proofs.lemmas.List.Sums.{AllPass-from_list_all, list_all-from_AllPass}
use Rattle.catalogue.specs.Order.{is_before, put_by, rising_by}
use Rattle.catalogue.specs.Releases.{ContentData, names_of}
use Rattle.release_manifest.specs.declared.manifest_type.ManifestZone.{ManifestZone}
use Rattle.release_check.specs.Found.{AreOf}
use Rattle.release_check.specs.Faults.{names_in}

-- an item that is put in its place only moves
put_moves : {X : Type 0} (text : X → List ℕ) (x : X) (xs : List X) → IsPermutation (x ∷ xs) (put_by text x xs)
put_moves text x [] = IsPermutation-refl (x ∷ [])
put_moves text x (y ∷ ys) = by (is_before (text y) (text x)) (put_moves text x ys)
  where
    by : (b : Bool) → IsPermutation (x ∷ ys) (put_by text x ys) → IsPermutation (x ∷ y ∷ ys) (if b then y ∷ put_by text x ys else x ∷ y ∷ ys)
    by true later = IsPermutation-trans (x ∷ y ∷ ys) (y ∷ x ∷ ys) (y ∷ put_by text x ys) (IsPermutation-middle (x ∷ []) y ys)
        (IsPermutation-cons y (x ∷ ys) (put_by text x ys) later)
    by false later = IsPermutation-refl (x ∷ y ∷ ys)

-- sorting only moves the items
pub rising_moves : {X : Type 0} (text : X → List ℕ) (xs : List X) → IsPermutation xs (rising_by text xs)
rising_moves text [] = IsPermutation-refl []
rising_moves text (x ∷ xs) =
    IsPermutation-trans (x ∷ xs) (x ∷ rising_by text xs) (put_by text x (rising_by text xs))
    (IsPermutation-cons x xs (rising_by text xs) (rising_moves text xs))
    (put_moves text x (rising_by text xs))

-- two parts of a list change places
parts_move : (a b c : List (List ℕ)) → IsPermutation (a ++ (b ++ c)) (b ++ (a ++ c))
parts_move a b c =
    let p : IsPermutation ((a ++ b) ++ c) ((b ++ a) ++ c) = IsPermutation-append_left c (a ++ b) (b ++ a) (IsPermutation-append_comm a b) in
    simp append_assoc at p

-- the names of a content that is put in its place only move
names_put : (c : ContentData) (cs : List ContentData) → IsPermutation (names_of (c ∷ cs)) (names_of (put_by (λ d. d.tzid) c cs))
names_put c [] = IsPermutation-refl (names_of (c ∷ []))
names_put c (d ∷ ds) = by (is_before d.tzid c.tzid) (names_put c ds)
  where
    by : (b : Bool) → IsPermutation (names_of (c ∷ ds)) (names_of (put_by (λ d. d.tzid) c ds))
        → IsPermutation (names_of (c ∷ d ∷ ds)) (names_of (if b then d ∷ put_by (λ d. d.tzid) c ds else c ∷ d ∷ ds))
    by true later =
        IsPermutation-trans (names_of (c ∷ d ∷ ds)) (names_of (d ∷ c ∷ ds)) (names_of (d ∷ put_by (λ d. d.tzid) c ds))
        (parts_move (c.tzid ∷ c.aliases) (d.tzid ∷ d.aliases) (names_of ds))
        (IsPermutation-append_right (d.tzid ∷ d.aliases) (names_of (c ∷ ds)) (names_of (put_by (λ d. d.tzid) c ds)) later)
    by false later = IsPermutation-refl (names_of (c ∷ d ∷ ds))

-- sorting contents only moves their names
pub names_rising : (cs : List ContentData) → IsPermutation (names_of cs) (names_of (rising_by (λ c. c.tzid) cs))
names_rising [] = IsPermutation-refl []
names_rising (c ∷ cs) =
    let sorted = rising_by (λ (d : ContentData). d.tzid) cs in
    IsPermutation-trans (names_of (c ∷ cs)) (names_of (c ∷ sorted)) (names_of (put_by (λ d. d.tzid) c sorted))
    (IsPermutation-append_right (c.tzid ∷ c.aliases) (names_of cs) (names_of sorted) (names_rising cs))
    (names_put c sorted)

-- the names of the contents of a manifest's zones are the manifest's, moved
pub names_moved : (zs : List ManifestZone) (cs : List ContentData) → AreOf zs cs → IsPermutation (names_in zs) (names_of cs)
names_moved [] [] of = IsPermutation-refl []
names_moved [] (c ∷ cs) of = absurd of
names_moved (z ∷ zs) [] of = absurd of
names_moved (z ∷ zs) (c ∷ cs) of =
    let later = names_moved zs cs of.1 in
    rw (of.0.tzid, of.0.aliases) (IsPermutation-append (z.tzid ∷ z.aliases) (z.tzid ∷ rising_by (λ a. a) z.aliases) (names_in zs) (names_of cs)
    (IsPermutation-cons z.tzid z.aliases (rising_by (λ a. a) z.aliases) (rising_moves (λ a. a) z.aliases)) later)

-- and they are as many
pub count_kept : (zs : List ManifestZone) (cs : List ContentData) → AreOf zs cs → length zs ≡ length cs
count_kept [] [] of = refl
count_kept [] (c ∷ cs) of = absurd of
count_kept (z ∷ zs) [] of = absurd of
count_kept (z ∷ zs) (c ∷ cs) of = ap (λ n. suc n) (count_kept zs cs of.1)

-- texts that pass a test pass it in another order
pub list_all_moved : (test : List ℕ → Bool) (xs ys : List (List ℕ)) → IsPermutation xs ys → list_all test xs ≡ true → list_all test ys ≡ true
list_all_moved test xs ys moved all =
    list_all-from_AllPass test ys (All-permutation (λ x. test x ≡ true) xs ys moved (AllPass-from_list_all test xs all))
