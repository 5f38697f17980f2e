-- The token of a place finds that place.
use Rattle.std.proofs.Common.{get_or, append_assoc, length-append, ◌≡◌, ℕ, zero, suc, ◌+◌, ◌-◌, ◌%◌, ◌<◌, ◌≤◌, ◌^◌, Bool, true, false, cond, not, None, Some}
use Rattle.std.proofs.Common.{List, [], ◌∷◌, ◌++◌, length, take, map, nat_eq, refl, sym, ap, ◌∙◌, subst, arith, if◌then◌else◌}
use Rattle.std.specs.List.{filter, find, list_all, position_or_len, range_with_len, slice_get}
use Rattle.std.specs.Fmt.{decimal}
use Rattle.std.specs.Str.{bytes_eq}
use Rattle.std.proofs.lemmas.Bool.{cases_lt}
use Rattle.std.proofs.lemmas.Cmp.{nat_list_eq_equiv}
use Rattle.std.proofs.lemmas.Bool.Decides.{nat_tests}
use Rattle.std.proofs.lemmas.Fmt.{decimal_by_steps, decimal_injective}
use Rattle.std.proofs.lemmas.List.Folds.{list_all-append}
use Rattle.std.proofs.lemmas.List.FromFn.{get_or-map-range_with_len}
use Rattle.std.proofs.lemmas.Slice.Eq.{bytes_eq-Decides}
use Rattle.std.proofs.Common.{inl, inr}
use Rattle.catalogue.specs.Releases.{ReleaseData}
use Rattle.catalogue.specs.Digests.{token_text}
use Rattle.catalogue.specs.Histories.{kept_places, retired, token_of, tokens_of}
use Rattle.catalogue.specs.declared.limits.TheConstants.{KEPT_TOKENS}
use Rattle.catalogue.specs.Holdings.{StandsFor, place_count, release_held}
use Rattle.catalogue.specs.Lookups.{place_of}
use Rattle.change_index.specs.Positions.{positions}
use Rattle.catalogue.specs.declared.holding.Catalogue.{Catalogue}
use Rattle.catalogue.proofs.lemmas.Growing.{prefix_all}
use Rattle.catalogue.proofs.lemmas.LastRelease.{last_of}

-- ---- a token begins with its place

abbrev no_dash : ℕ → Bool
no_dash d = not (nat_eq 45 d)

digit_no_dash : (n : ℕ) → n < 10 → list_all no_dash ((48 + n) ∷ []) ≡ true
digit_no_dash n small = grind (arith, nat_tests)

decimal_no_dash : (n : ℕ) → n < 2 ^ 64 → list_all no_dash (decimal n) ≡ true
decimal_no_dash =
    decimal_by_steps (λ _ text. list_all no_dash text ≡ true) digit_no_dash
    (λ n ds more all. list_all-append no_dash ds ((48 + n % 10) ∷ []) ∙ rw (all, digit_no_dash (n % 10) (omega arith)))

-- the first dash stands after the number
pub dash_after : (n : ℕ) (rest : List ℕ) → n < 2 ^ 64 → position_or_len (nat_eq 45) (decimal n ++ 45 ∷ rest) ≡ length (decimal n)
dash_after n rest small = omega (arith, prefix_all no_dash (decimal n) (45 ∷ rest) (decimal_no_dash n small))

before : (xs ys : List ℕ) → take (length xs) (xs ++ ys) ≡ xs
before [] ys = refl
before (x ∷ xs) ys = ap (λ zs. x ∷ zs) (before xs ys)

pub number_before : (n : ℕ) (rest : List ℕ) → n < 2 ^ 64 → take (position_or_len (nat_eq 45) (decimal n ++ 45 ∷ rest)) (decimal n ++ 45 ∷ rest) ≡ decimal n
number_before n rest small = ap (λ k. take k (decimal n ++ 45 ∷ rest)) (dash_after n rest small) ∙ before (decimal n) (45 ∷ rest)

pub one_number : (m n : ℕ) (a b : List ℕ) → m < 2 ^ 64 → n < 2 ^ 64 → decimal m ++ 45 ∷ a ≡ decimal n ++ 45 ∷ b → m ≡ n
one_number m n a b hm hn e =
    decimal_injective m n hm hn
    (sym (number_before m a hm) ∙ ap (λ t. take (position_or_len (nat_eq 45) t) t) e ∙ number_before n b hn)

-- what stands after the dash of a token
pub record IsNumbered (text : List ℕ) (n : ℕ) : Type 0 where
  pub rest : List ℕ
  pub is : text ≡ decimal n ++ 45 ∷ rest

pub token_numbered : (H : List ReleaseData) (n : ℕ) → IsNumbered (token_of H n) n
unfolding token_of token_text
token_numbered H n = record { rest = _; is = refl }

-- tokens of two places, of whatever histories, are two
pub tokens_apart : (G H : List ReleaseData) (m n : ℕ) → m < 2 ^ 64 → n < 2 ^ 64 → token_of G m ≡ token_of H n → m ≡ n
tokens_apart G H m n hm hn e =
    let one = token_numbered G m in
    let two = token_numbered H n in
    one_number m n one.rest two.rest hm hn (sym one.is ∙ e ∙ two.is)

-- ---- finding

-- a text that only one number has is found there
found : (f : ℕ → List ℕ) (m a l : ℕ) → a ≤ m → m < a + l → ((k : ℕ) → a ≤ k → k < a + l → f k ≡ f m → k ≡ m)
    → find (λ k. bytes_eq (f k) (f m)) (range_with_len a l) ≡ Some m
found f m a zero low high one = absurd (omega arith)
found f m a (suc l) low high one = by (found f m (a + 1) l) (bytes_eq (f a) (f m)) refl
  where
    later : a ≤ m → bytes_eq (f a) (f m) ≡ false → a + 1 ≤ m
    later le e = elim (cases_lt a m) [
      | inl lt ↦ omega arith
      | inr ge ↦ let same : a ≡ m = omega arith in absurd (cc (subst (λ k. bytes_eq (f k) (f m) ≡ true) (sym same) (nat_list_eq_equiv.refl (f m))))
    ]

    by : (a + 1 ≤ m → m < a + 1 + l → ((k : ℕ) → a + 1 ≤ k → k < a + 1 + l → f k ≡ f m → k ≡ m)
        → find (λ k. bytes_eq (f k) (f m)) (range_with_len (a + 1) l) ≡ Some m)
        → (b : Bool) → bytes_eq (f a) (f m) ≡ b → cond b (Some a) (find (λ k. bytes_eq (f k) (f m)) (range_with_len (a + 1) l)) ≡ Some m
    by again true e = ap Some (one a (omega arith) (omega arith) ((bytes_eq-Decides (f a) (f m)).0 e))
    by again false e = again (later low e) (omega arith) (λ k ge lt. one k (omega arith) (omega arith))

pub place_found : (H : List ReleaseData) (n : ℕ) → 1 ≤ n → n ≤ length H → length H < n + KEPT_TOKENS → length H < 2 ^ 32
    → place_of H (token_of H n) ≡ Some n
unfolding place_of
place_found H n some there kept small =
    found (token_of H) n (retired (length H) + 1) (length H - retired (length H)) (omega arith) (omega arith)
    (λ k low high. tokens_apart H H k n (omega arith) (omega arith))

-- a text that no number has is not found
not_found : (f : ℕ → List ℕ) (text : List ℕ) (a l : ℕ) → ((k : ℕ) → a ≤ k → k < a + l → bytes_eq (f k) text ≡ false)
    → find (λ k. bytes_eq (f k) text) (range_with_len a l) ≡ None
not_found f text a zero none = refl
not_found f text a (suc l) none = rw (none a (omega arith) (omega arith)) (not_found f text (a + 1) l (λ k low high. none k (omega arith) (omega arith)))

pub place_missed : (H : List ReleaseData) (text : List ℕ) → ((k : ℕ) → retired (length H) < k → k ≤ length H → token_of H k ≡ text → ⊥) → place_of H text ≡ None
unfolding place_of
place_missed H text none =
    not_found (token_of H) text (retired (length H) + 1) (length H - retired (length H))
    (λ k low high. by k (omega arith) (omega arith) (bytes_eq (token_of H k) text) refl)
  where
    by : (k : ℕ) → retired (length H) < k → k ≤ length H → (b : Bool) → bytes_eq (token_of H k) text ≡ b → bytes_eq (token_of H k) text ≡ false
    by k low high true e = absurd (none k low high ((bytes_eq-Decides (token_of H k) text).0 e))
    by k low high false e = e

-- ---- positions

pub positions-map : {X Y : Type 0} (p : Y → Bool) (f : X → Y) (k : ℕ) (xs : List X) → positions p k (map f xs) ≡ positions (λ x. p (f x)) k xs
positions-map p f k [] = refl
positions-map p f k (x ∷ xs) = ap (λ (rest : List ℕ). if p (f x) then k ∷ rest else rest) (positions-map p f (k + 1) xs)

get_after : {X : Type 0} (done : List X) (x : X) (xs : List X) → slice_get (done ++ x ∷ xs) (length done) ≡ Some x
get_after [] x xs = refl
get_after (y ∷ ys) x xs = get_after ys x xs

-- the items at the positions are those that pass
pub items_at : {X : Type 0} (p : X → Bool) (done xs : List X) → map (slice_get (done ++ xs)) (positions p (length done) xs) ≡ map Some (filter p xs)
items_at p done [] = refl
items_at p done (x ∷ xs) = by (p x) (later (items_at p (done ++ x ∷ []) xs))
  where
    later : map (slice_get ((done ++ x ∷ []) ++ xs)) (positions p (length (done ++ x ∷ [])) xs) ≡ map Some (filter p xs)
        → map (slice_get (done ++ x ∷ xs)) (positions p (length done + 1) xs) ≡ map Some (filter p xs)
    later more =
        subst (λ ys. map (slice_get ys) (positions p (length done + 1) xs) ≡ map Some (filter p xs)) (append_assoc done (x ∷ []) xs)
        (subst (λ n. map (slice_get ((done ++ x ∷ []) ++ xs)) (positions p n xs) ≡ map Some (filter p xs)) (length-append done (x ∷ [])) more)

    by : (b : Bool) → map (slice_get (done ++ x ∷ xs)) (positions p (length done + 1) xs) ≡ map Some (filter p xs)
        → map (slice_get (done ++ x ∷ xs)) (if b then length done ∷ positions p (length done + 1) xs else positions p (length done + 1) xs) ≡ map Some
        (cond b (x ∷ filter p xs) (filter p xs))
    by true more = ap (λ o. o ∷ map (slice_get (done ++ x ∷ xs)) (positions p (length done + 1) xs)) (get_after done x xs) ∙ ap (λ os. Some x ∷ os) more
    by false more = more

-- ---- the tokens of a catalogue

pub token_at : {Z : Type 0} (bytes : Z → List ℕ) (sound : ReleaseData → Type 0) (k : Catalogue Z) (H : List ReleaseData) → StandsFor bytes sound k H
    → (n : ℕ) (t : List ℕ) → retired (place_count k) < n → n ≤ place_count k → t ≡ get_or k.tokens (n - 1 - retired (place_count k)) t → t ≡ token_of H n
unfolding tokens_of
token_at bytes sound k H s n t kept there is =
    let count : place_count k ≡ length H = s.places.0 in
    is ∙ ap (λ ts. get_or ts (n - 1 - retired (place_count k)) t) s.places.1
    ∙ ap (λ c. get_or (map (token_of H) (kept_places (length H))) (n - 1 - retired c) t) count
    ∙ get_or-map-range_with_len (token_of H) (retired (length H) + 1) (length H - retired (length H)) (n - 1 - retired (length H)) n t
    (omega (arith, count, kept, there))
    (omega (arith, count, kept, there))

-- a history has few places
pub few_places : {Z : Type 0} (bytes : Z → List ℕ) (sound : ReleaseData → Type 0) (k : Catalogue Z) (H : List ReleaseData) → StandsFor bytes sound k H
    → length H < 2 ^ 32
few_places bytes sound k H s =
    let last = last_of sound H (release_held bytes k) s.history s.last in
    omega (arith, last.release.fits.places, ap length last.is, length-append last.before (release_held bytes k ∷ []))
