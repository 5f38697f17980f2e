-- Items in rising order, where they are borrowed.
use Rattle.std.proofs.Common.{◌≡◌, ℕ, suc, ◌+◌, ◌<◌, ◌≤◌, Bool, true, false, ◌&&◌, List, [], ◌∷◌, map, drop, length, get_or, refl, sym, ap, ◌∙◌, arith, drop-cons, add-one}
use Rattle.std.specs.Cmp.Lexicographic.{pointwise}
use Rattle.std.specs.Str.{bytes_eq}
use Rattle.std.proofs.lemmas.List.{drop_all, length-map, get_or-map}
use Rattle.catalogue.specs.Order.{rising_by}
use Rattle.catalogue.specs.Releases.{ContentData, content_data}
use Rattle.catalogue.specs.declared.release.Content.{Content}
use Rattle.catalogue.proofs.Sorting.{map-rising_by}

-- zones in rising order, as they are seen
pub contents_rise : {Z : Type 0} (bytes : Z → List ℕ) (sorted zones : List (Content Z)) → sorted ≡ rising_by (λ (c : Content Z). c.tzid) zones
    → map (content_data bytes) sorted ≡ rising_by (λ (c : ContentData). c.tzid) (map (content_data bytes) zones)
contents_rise bytes sorted zones is = ap (map (content_data bytes)) is ∙ map-rising_by (content_data bytes) (λ (c : ContentData). c.tzid) zones

-- ---- texts compared one by one

-- what is left of both rows is compared as the whole rows are
abbrev pub SameLeft : List (List ℕ) → List (List ℕ) → ℕ → Type 0
SameLeft xs ys i = pointwise bytes_eq (drop i xs) (drop i ys) ≡ pointwise bytes_eq xs ys

left_is : (xs ys : List (List ℕ)) (i : ℕ) (x y : List ℕ) → i < length xs → i < length ys → x ≡ get_or xs i x → y ≡ get_or ys i y
    → pointwise bytes_eq (drop i xs) (drop i ys) ≡ (bytes_eq x y && pointwise bytes_eq (drop (i + 1) xs) (drop (i + 1) ys))
left_is xs ys i x y lt less hx hy =
    let one : drop i xs ≡ x ∷ drop (i + 1) xs = rw add-one (drop-cons xs i x lt ∙ ap (λ z. z ∷ drop (suc i) xs) (sym hx)) in
    let two : drop i ys ≡ y ∷ drop (i + 1) ys = rw add-one (drop-cons ys i y less ∙ ap (λ z. z ∷ drop (suc i) ys) (sym hy)) in
    rw (one, two) refl

pub same_next : (xs ys : List (List ℕ)) (i : ℕ) (x y : List ℕ) → i < length xs → i < length ys → x ≡ get_or xs i x → y ≡ get_or ys i y
    → bytes_eq x y ≡ true → SameLeft xs ys i → SameLeft xs ys (i + 1)
same_next xs ys i x y lt less hx hy same left = sym (left_is xs ys i x y lt less hx hy ∙ rw same refl) ∙ left

pub other_at : (xs ys : List (List ℕ)) (i : ℕ) (x y : List ℕ) → i < length xs → i < length ys → x ≡ get_or xs i x → y ≡ get_or ys i y
    → bytes_eq x y ≡ false → SameLeft xs ys i → false ≡ pointwise bytes_eq xs ys
other_at xs ys i x y lt less hx hy other left = sym (left_is xs ys i x y lt less hx hy ∙ rw other refl) ∙ left

pub same_all : (xs ys : List (List ℕ)) (i : ℕ) → length xs ≤ i → length ys ≤ i → SameLeft xs ys i → true ≡ pointwise bytes_eq xs ys
same_all xs ys i all more left = sym (rw (drop_all i xs all, drop_all i ys more) refl) ∙ left

pub lengths_apart : (xs ys : List (List ℕ)) → (length xs ≡ length ys → ⊥) → false ≡ pointwise bytes_eq xs ys
lengths_apart [] [] h = absurd (h refl)
lengths_apart [] (y ∷ ys) h = refl
lengths_apart (x ∷ xs) [] h = refl
lengths_apart (x ∷ xs) (y ∷ ys) h = by (bytes_eq x y) (lengths_apart xs ys (λ e. h (ap suc e)))
  where
    by : (b : Bool) → false ≡ pointwise bytes_eq xs ys → false ≡ (b && pointwise bytes_eq xs ys)
    by true rest = rest
    by false rest = refl

-- the same where one row is borrowed
read_at : {R : Type 0} (now : R → List ℕ) (borrowed : List R) (i : ℕ) (r : R) → i < length borrowed → r ≡ get_or borrowed i r
    → now r ≡ get_or (map now borrowed) i (now r)
read_at now borrowed i r lt is = sym (get_or-map now borrowed i r (now r) lt ∙ ap now (sym is))

pub borrowed_next : {R : Type 0} (now : R → List ℕ) (borrowed : List R) (ys : List (List ℕ)) (i : ℕ) (r : R) (y : List ℕ) → length ys ≡ length borrowed
    → i < length borrowed → r ≡ get_or borrowed i r → y ≡ get_or ys i y → bytes_eq (now r) y ≡ true → SameLeft (map now borrowed) ys i
    → SameLeft (map now borrowed) ys (i + 1)
borrowed_next now borrowed ys i r y same lt hr hy equal left =
    same_next (map now borrowed) ys i (now r) y (rw (length-map borrowed now) lt) (omega arith) (read_at now borrowed i r lt hr) hy equal left

pub borrowed_other : {R : Type 0} (now : R → List ℕ) (borrowed : List R) (ys : List (List ℕ)) (i : ℕ) (r : R) (y : List ℕ) → length ys ≡ length borrowed
    → i < length borrowed → r ≡ get_or borrowed i r → y ≡ get_or ys i y → bytes_eq (now r) y ≡ false → SameLeft (map now borrowed) ys i
    → false ≡ pointwise bytes_eq (map now borrowed) ys
borrowed_other now borrowed ys i r y same lt hr hy other left =
    other_at (map now borrowed) ys i (now r) y (rw (length-map borrowed now) lt) (omega arith) (read_at now borrowed i r lt hr) hy other left
