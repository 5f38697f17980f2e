-- Lists that are pieces of one size, one after another, and pieces of a list.
use Rattle.std.proofs.Common.{◌≡◌, ℕ, zero, suc, ◌+◌, ◌*◌, ◌<◌, ◌≤◌, List, [], ◌∷◌, ◌++◌, length, get_or, take, drop, map, sym, ap, subst, ◌∙◌, arith}
use Rattle.std.specs.List.{range_with_len}
use Rattle.std.proofs.lemmas.List.{take_at, drop_at, drop_all, drop-drop, take-append-drop, length-append, length-take, length-drop}
use Rattle.tzif_reader.specs.Layout.{AreJoined}
use Rattle.tzif_reader.specs.Cut.{piece, items}

-- the list from a place on is the piece there and what follows
pub cut_at : (place size : ℕ) (text : List ℕ) → drop place text ≡ piece place size text ++ drop (place + size) text
cut_at place size text = sym (take-append-drop size (drop place text)) ∙ ap (λ (r : List ℕ). piece place size text ++ r) (drop-drop size place text)

pub length_piece : (place size : ℕ) (text : List ℕ) → place + size ≤ length text → length (piece place size text) ≡ size
length_piece place size text room = omega (arith, length-take size (drop place text), length-drop place text)

-- what stands at a place, where it is known what stands from there on
pub field : (text p rest : List ℕ) (place size : ℕ) → drop place text ≡ p ++ rest → length p ≡ size → (piece place size text ≡ p)
    × (drop (place + size) text ≡ rest)
field text p rest place size h len =
    (ap (take size) h ∙ take_at p rest size len, sym (drop-drop size place text) ∙ (ap (drop size) h ∙ drop_at p rest size len))

pub join_step : {A : Type 0} (size : ℕ) (Is : List ℕ → A → Type 0) (text : List ℕ) (place : ℕ) (x : A) (xs : List A) → place + size ≤ length text
    → Is (piece place size text) x → AreJoined size Is (drop (place + size) text) xs → AreJoined size Is (drop place text) (x ∷ xs)
join_step size Is text place x xs room is more =
    (piece place size text, drop (place + size) text, cut_at place size text, length_piece place size text room, is, more)

joined_from : {A : Type 0} (size : ℕ) (Is : List ℕ → A → Type 0) (f : ℕ → A) (text : List ℕ) (start count : ℕ) → length text ≡ size * (start + count)
    → ((i : ℕ) → i < start + count → Is (piece (size * i) size text) (f i)) → AreJoined size Is (drop (size * start) text) (map f (range_with_len start count))
joined_from size Is f text start zero len each = drop_all (size * start) text (omega (arith, len))
joined_from size Is f text start (suc count) len each =
    let next : size * (start + 1) ≡ size * start + size = omega arith in
    let total : length text ≡ size * (start + 1 + count) = omega (arith, len) in
    let more = joined_from size Is f text (start + 1) count total (λ i lt. each i (omega arith)) in
    join_step size Is text (size * start) (f start) (map f (range_with_len (start + 1) count)) (omega (arith, len)) (each start (omega arith))
    (subst (λ (n : ℕ). AreJoined size Is (drop n text) (map f (range_with_len (start + 1) count))) next more)

-- a text of so many pieces, each of which is what f gives
pub joined_items : {A : Type 0} (size : ℕ) (Is : List ℕ → A → Type 0) (f : ℕ → A) (text : List ℕ) (n : ℕ) → length text ≡ size * n
    → ((i : ℕ) → i < n → Is (piece (size * i) size text) (f i)) → AreJoined size Is text (items n f)
joined_items size Is f text n len each =
    let none : size * 0 ≡ 0 = omega arith in
    let all : length text ≡ size * (0 + n) = omega (arith, len) in
    subst (λ (k : ℕ). AreJoined size Is (drop k text) (items n f)) none (joined_from size Is f text 0 n all (λ i lt. each i (omega arith)))

pub joined_length : {A : Type 0} (size : ℕ) (Is : List ℕ → A → Type 0) (text : List ℕ) (xs : List A) → AreJoined size Is text xs
    → length text ≡ size * length xs
joined_length size Is text [] h = ap length h ∙ omega arith
joined_length size Is text (x ∷ xs) h =
    let more = joined_length size Is h.1 xs h.5 in
    omega (arith, ap length h.2, length-append h.0 h.1, h.3, more)

pub joined_at : {A : Type 0} (size : ℕ) (Is : List ℕ → A → Type 0) (text : List ℕ) (xs : List A) (i : ℕ) (d : A) → AreJoined size Is text xs → i < length xs
    → Is (piece (size * i) size text) (get_or xs i d)
joined_at size Is text [] i d h lt = absurd (omega arith)
joined_at size Is text (x ∷ xs) zero d h lt =
    let none : 0 ≡ size * 0 = omega arith in
    let front : h.0 ≡ piece 0 size text = sym (ap (take size) h.2 ∙ take_at h.0 h.1 size h.3) in
    subst (λ (k : ℕ). Is (piece k size text) x) none (subst (λ (p : List ℕ). Is p x) front h.4)
joined_at size Is text (x ∷ xs) (suc i) d h lt =
    let next : size + size * i ≡ size * suc i = omega arith in
    let rest : drop (size * i) h.1 ≡ drop (size + size * i) text = ap (drop (size * i)) (sym (ap (drop size) h.2 ∙ drop_at h.0 h.1 size h.3))
    ∙ drop-drop (size * i) size text in
    let more = joined_at size Is h.1 xs i d h.5 (omega arith) in
    subst (λ (k : ℕ). Is (piece k size text) (get_or xs i d)) next (subst (λ (p : List ℕ). Is (take size p) (get_or xs i d)) rest more)
