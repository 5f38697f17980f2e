-- A history with one release more: its last changes, entries, chain value and tokens.
use Rattle.std.proofs.Common.{◌≡◌, ℕ, ◌+◌, ◌-◌, ◌<◌, ◌≤◌, Bool, true, false, cond, if◌then◌else◌, ◌&&◌, Option, None, Some, List, [], ◌∷◌, ◌++◌, length}
use Rattle.std.proofs.Common.{inl, inr, add-one, take, get_or, refl, sym, ap, ◌∙◌, subst, map, arith, length-append, append_assoc}
use Rattle.std.specs.Prelude.{drop, reverse, replicate}
use Rattle.std.specs.List.{AllByRecursion, list_all, last_or, prefix_len, suffix_len, range_with_len}
use Rattle.std.proofs.lemmas.Bool.{cases_lt}
use Rattle.std.proofs.lemmas.List.{reverse-append, length-reverse, get_or_append_left, get_or_default, take-append-le}
use Rattle.std.proofs.lemmas.List.Folds.{list_all-append}
use Rattle.std.proofs.lemmas.List.FromFn.{length-map-range_with_len, map-range_with_len_more}
use Rattle.std.proofs.lemmas.List.Sums.{fold-append}
use Rattle.std.proofs.lemmas.Simd.{map-map}
use Rattle.catalogue.specs.Releases.{ContentData, ReleaseData, IsInOrder}
use Rattle.catalogue.specs.Digests.{chain_of, content_digest, linked, token_text}
use Rattle.catalogue.specs.Growing.{entry_next}
use Rattle.catalogue.specs.HeldZones.{held_content, held_digest, held_entry}
use Rattle.catalogue.specs.Histories.{IsHistory, IsRelease, EntryData, FitsAfter, entries_of, entry_from, entry_of, has_content, last_change, last_release}
use Rattle.catalogue.specs.Histories.{kept_places, meta, retired, token_of, tokens_of}
use Rattle.catalogue.specs.declared.limits.TheConstants.{KEPT_TOKENS}
use Rattle.catalogue.specs.Holdings.{StandsFor, place_count, release_held, release_of}
use Rattle.catalogue.specs.declared.holding.Catalogue.{Catalogue}
use Rattle.catalogue.proofs.lemmas.LastRelease.{Last, last_of}
use Rattle.catalogue.proofs.Standing.{each_content}

-- ---- runs at the end of a list

pub prefix_all : {X : Type 0} (p : X → Bool) (ys zs : List X) → list_all p ys ≡ true → prefix_len p (ys ++ zs) ≡ length ys + prefix_len p zs
prefix_all p [] zs h = omega arith
prefix_all p (y ∷ ys) zs h = by (prefix_all p ys zs) (p y) refl h
  where
    by : (list_all p ys ≡ true → prefix_len p (ys ++ zs) ≡ length ys + prefix_len p zs) → (b : Bool) → p y ≡ b → (b && list_all p ys) ≡ true
        → cond b (1 + prefix_len p (ys ++ zs)) 0 ≡ length (y ∷ ys) + prefix_len p zs
    by again true e k = omega (arith, again k)
    by again false e k = absurd (cc)

prefix_some : {X : Type 0} (p : X → Bool) (ys zs : List X) → list_all p ys ≡ false → prefix_len p (ys ++ zs) < length ys
prefix_some p [] zs h = absurd (cc)
prefix_some p (y ∷ ys) zs h = by (prefix_some p ys zs) (p y) refl h
  where
    by : (list_all p ys ≡ false → prefix_len p (ys ++ zs) < length ys) → (b : Bool) → p y ≡ b → (b && list_all p ys) ≡ false
        → cond b (1 + prefix_len p (ys ++ zs)) 0 < length (y ∷ ys)
    by again true e k = omega (arith, again k)
    by again false e k = omega arith

and_turned : (a b : Bool) → (a && b) ≡ (b && a)
and_turned true true = refl
and_turned true false = refl
and_turned false true = refl
and_turned false false = refl

and_true : (a : Bool) → (a && true) ≡ a
and_true true = refl
and_true false = refl

all_reverse : {X : Type 0} (p : X → Bool) (xs : List X) → list_all p (reverse xs) ≡ list_all p xs
all_reverse p [] = refl
all_reverse p (x ∷ xs) =
    ap (list_all p) (reverse-append (x ∷ []) xs) ∙ list_all-append p (reverse xs) (x ∷ [])
    ∙ ap (λ b. b && (p x && true)) (all_reverse p xs) ∙ ap (λ b. list_all p xs && b) (and_true (p x)) ∙ and_turned (list_all p xs) (p x)

suffix_all : {X : Type 0} (p : X → Bool) (xs ys : List X) → list_all p ys ≡ true → suffix_len p (xs ++ ys) ≡ length ys + suffix_len p xs
suffix_all p xs ys h =
    ap (prefix_len p) (reverse-append xs ys) ∙ prefix_all p (reverse ys) (reverse xs) (all_reverse p ys ∙ h)
    ∙ ap (λ n. n + suffix_len p xs) (length-reverse ys)

suffix_some : {X : Type 0} (p : X → Bool) (xs ys : List X) → list_all p ys ≡ false → suffix_len p (xs ++ ys) < length ys
suffix_some p xs ys h =
    let less = prefix_some p (reverse ys) (reverse xs) (all_reverse p ys ∙ h) in
    let same : suffix_len p (xs ++ ys) ≡ prefix_len p (reverse ys ++ reverse xs) = ap (prefix_len p) (reverse-append xs ys) in
    omega (arith, less, same, length-reverse ys)

-- ---- last changes

-- a content that the last two releases have changed last where it had before
stays : (A : List ReleaseData) (x r : ReleaseData) (c : ContentData) → has_content c x ≡ true → has_content c r ≡ true
    → last_change (A ++ x ∷ r ∷ []) c ≡ last_change (A ++ x ∷ []) c
unfolding last_change
stays A x r c hx hr =
    let two : list_all (has_content c) (x ∷ r ∷ []) ≡ true = rw (hx, hr) in
    let one : list_all (has_content c) (x ∷ []) ≡ true = rw hx in
    omega (
      arith,
      suffix_all (has_content c) A (x ∷ r ∷ []) two,
      suffix_all (has_content c) A (x ∷ []) one,
      length-append A (x ∷ r ∷ []),
      length-append A
          (x ∷ []),
    )

at_most : (A : List ReleaseData) (x : ReleaseData) (c : ContentData) → has_content c x ≡ true → last_change (A ++ x ∷ []) c - 1 < length (A ++ x ∷ [])
unfolding last_change
at_most A x c hx =
    let one : list_all (has_content c) (x ∷ []) ≡ true = rw hx in
    omega (arith, suffix_all (has_content c) A (x ∷ []) one, length-append A (x ∷ []))

-- a content that the last release alone has changed there
changes : (A : List ReleaseData) (x r : ReleaseData) (c : ContentData) → has_content c x ≡ false → has_content c r ≡ true
    → last_change ((A ++ x ∷ []) ++ r ∷ []) c ≡ length (A ++ x ∷ []) + 1
unfolding last_change
changes A x r c hx hr =
    let none : list_all (has_content c) (x ∷ []) ≡ false = rw hx in
    let one : list_all (has_content c) (r ∷ []) ≡ true = rw hr in
    omega (arith, suffix_all (has_content c) (A ++ x ∷ []) (r ∷ []) one, suffix_some (has_content c) A (x ∷ []) none, length-append (A ++ x ∷ []) (r ∷ []))

-- ---- entries

abbrev kept_entry : List ReleaseData → ReleaseData → ReleaseData → ContentData → Type 0
kept_entry H x r c = entry_of (H ++ r ∷ []) r c ≡ entry_of H x c

keeps : (A : List ReleaseData) (x r : ReleaseData) (c : ContentData) → has_content c x ≡ true → has_content c r ≡ true → kept_entry (A ++ x ∷ []) x r c
keeps A x r c hx hr =
    let H = A ++ x ∷ [] in
    let same : last_change (H ++ r ∷ []) c ≡ last_change H c = ap (λ G. last_change G c) (append_assoc A (x ∷ []) (r ∷ [])) ∙ stays A x r c hx hr in
    let within = at_most A x c hx in
    let there : get_or (H ++ r ∷ []) (last_change H c - 1) r ≡ get_or H (last_change H c - 1) x =
    get_or_append_left H (r ∷ []) r (last_change H c - 1) within ∙ sym (get_or_default H (last_change H c - 1) x r within) in
    ap (λ n. entry_from (get_or (H ++ r ∷ []) (n - 1) r) n c) same ∙ ap (λ g. entry_from g (last_change H c) c) there

at_end : (H : List ReleaseData) (r : ReleaseData) → get_or (H ++ r ∷ []) (length H) r ≡ r
at_end [] r = refl
at_end (h ∷ hs) r = at_end hs r

fresh : (A : List ReleaseData) (x r : ReleaseData) (c : ContentData) → has_content c x ≡ false → has_content c r ≡ true
    → entry_of ((A ++ x ∷ []) ++ r ∷ []) r c ≡ entry_from r (length (A ++ x ∷ []) + 1) c
fresh A x r c hx hr =
    let H = A ++ x ∷ [] in
    let place : length H + 1 - 1 ≡ length H = omega arith in
    ap (λ n. entry_from (get_or (H ++ r ∷ []) (n - 1) r) n c) (changes A x r c hx hr)
    ∙ ap (λ n. entry_from (get_or (H ++ r ∷ []) n r) (length H + 1) c) place
    ∙ ap (λ g. entry_from g (length H + 1) c) (at_end H r)

one_next : (A : List ReleaseData) (x r : ReleaseData) (c : ContentData) → has_content c r ≡ true
    → entry_of ((A ++ x ∷ []) ++ r ∷ []) r c ≡ entry_next (A ++ x ∷ []) x r (length (A ++ x ∷ []) + 1) c
one_next A x r c hr = by (has_content c x) refl
  where
    by : (b : Bool) → has_content c x ≡ b → entry_of ((A ++ x ∷ []) ++ r ∷ []) r c
        ≡ (if b then entry_of (A ++ x ∷ []) x c else entry_from r (length (A ++ x ∷ []) + 1) c)
    by true hx = keeps A x r c hx hr
    by false hx = fresh A x r c hx hr

all_next : (A : List ReleaseData) (x r : ReleaseData) (cs : List ContentData) → AllByRecursion (λ c. has_content c r ≡ true) cs
    → map (entry_of ((A ++ x ∷ []) ++ r ∷ []) r) cs ≡ map (entry_next (A ++ x ∷ []) x r (length (A ++ x ∷ []) + 1)) cs
all_next A x r [] all = refl
all_next A x r (c ∷ cs) all =
    ap (λ e. e ∷ map (entry_of ((A ++ x ∷ []) ++ r ∷ []) r) cs) (one_next A x r c all.0)
    ∙ ap (λ es. entry_next (A ++ x ∷ []) x r (length (A ++ x ∷ []) + 1) c ∷ es) (all_next A x r cs all.1)

pub last_added : (o : Option ReleaseData) (H : List ReleaseData) (r : ReleaseData) → last_or o (H ++ r ∷ []) ≡ Some r
last_added o [] r = refl
last_added o (h ∷ hs) r = last_added (Some h) hs r

meta_next : (A : List ReleaseData) (x r : ReleaseData)
    → meta ((A ++ x ∷ []) ++ r ∷ []) ≡ map (entry_next (A ++ x ∷ []) x r (length (A ++ x ∷ []) + 1)) r.contents
unfolding meta
meta_next A x r =
    ap (entries_of ((A ++ x ∷ []) ++ r ∷ [])) (last_added None (A ++ x ∷ []) r) ∙ all_next A x r r.contents (each_content r)

-- ---- chain values and tokens

pub chain_next : (H : List ReleaseData) (r : ReleaseData) → chain_of (H ++ r ∷ []) ≡ linked (chain_of H) r
unfolding chain_of
chain_next H r = fold-append linked (replicate 32 0) H (r ∷ [])

token_before : (H : List ReleaseData) (r : ReleaseData) (n : ℕ) → n ≤ length H → token_of (H ++ r ∷ []) n ≡ token_of H n
unfolding token_of
token_before H r n le = ap (λ G. token_text n (chain_of G)) (take-append-le n H (r ∷ []) le)

tokens_before : (H : List ReleaseData) (r : ReleaseData) (a n : ℕ) → a + n ≤ length H + 1
    → map (token_of (H ++ r ∷ [])) (range_with_len a n) ≡ map (token_of H) (range_with_len a n)
tokens_before H r a Rattle.std.proofs.Common.zero le = refl
tokens_before H r a (Rattle.std.proofs.Common.suc n) le =
    ap (λ t. t ∷ map (token_of (H ++ r ∷ [])) (range_with_len (a + 1) n)) (token_before H r a (omega arith))
    ∙ ap (λ ts. token_of H a ∷ ts) (tokens_before H r (a + 1) n (omega arith))

take_whole : (H : List ReleaseData) → take (length H) H ≡ H
take_whole [] = refl
take_whole (h ∷ hs) = ap (λ G. h ∷ G) (take_whole hs)

token_last : (H : List ReleaseData) (r : ReleaseData) → token_of (H ++ r ∷ []) (length H + 1) ≡ token_text (length H + 1) (chain_of (H ++ r ∷ []))
unfolding token_of
token_last H r =
    let long : length H + 1 ≡ length (H ++ r ∷ []) = omega (arith, length-append H (r ∷ [])) in
    ap (λ G. token_text (length H + 1) (chain_of G)) (ap (λ n. take n (H ++ r ∷ [])) long ∙ take_whole (H ++ r ∷ []))

-- of the last places the first falls away once there are more than are kept
at_places : {X : Type 0} (f : ℕ → X) (a b l m : ℕ) → a ≡ b → l ≡ m → map f (range_with_len a l) ≡ map f (range_with_len b m)
at_places f a b l m p q = ap (λ x. map f (range_with_len x l)) p ∙ ap (λ y. map f (range_with_len b y)) q

one_less : {X : Type 0} (f : ℕ → X) (a l : ℕ) → drop 1 (map f (range_with_len a (l + 1))) ≡ map f (range_with_len (a + 1) l)
one_less f a l = ap (λ n. drop 1 (map f (range_with_len a n))) (add-one l)

kept_next : {X : Type 0} (f : ℕ → X) (n l : ℕ) → l ≡ n - retired n
    → map f (kept_places (n + 1)) ≡ drop (retired (l + 1)) (map f (kept_places n)) ++ f (n + 1) ∷ []
kept_next f n l is = elim (cases_lt n KEPT_TOKENS) [
  | inl few ↦
      let none : retired (l + 1) ≡ 0 = omega (arith, is, few) in
      at_places f (retired (n + 1) + 1) 1 ((n + 1) - retired (n + 1)) (n + 1) (omega (arith, few)) (omega (arith, few))
      ∙ map-range_with_len_more f 1 n (n + 1) (omega arith)
      ∙ ap (λ ts. ts ++ f (n + 1) ∷ []) (at_places f 1 (retired n + 1) n (n - retired n) (omega (arith, few)) (omega (arith, few))
      ∙ sym (ap (λ k. drop k (map f (kept_places n))) none))
  | inr many ↦
      let one : retired (l + 1) ≡ 1 = omega (arith, is, many) in
      at_places f (retired (n + 1) + 1) ((retired n + 1) + 1) ((n + 1) - retired (n + 1)) ((l - 1) + 1) (omega (arith, many)) (omega (arith, is, many))
      ∙ map-range_with_len_more f ((retired n + 1) + 1) (l - 1) (n + 1) (omega (arith, is, many))
      ∙ ap (λ ts. ts ++ f (n + 1) ∷ []) (sym (one_less f (retired n + 1) (l - 1))
      ∙ ap (drop 1) (at_places f (retired n + 1) (retired n + 1) ((l - 1) + 1) (n - retired n) refl (omega (arith, is, many)))
      ∙ sym (ap (λ k. drop k (map f (kept_places n))) one))
]

pub tokens_next : (H : List ReleaseData) (r : ReleaseData)
    → tokens_of (H ++ r ∷ []) ≡ drop (retired (length (tokens_of H) + 1)) (tokens_of H) ++ token_text (length H + 1) (chain_of (H ++ r ∷ [])) ∷ []
unfolding tokens_of
tokens_next H r =
    let long : length (H ++ r ∷ []) ≡ length H + 1 = omega (arith, length-append H (r ∷ [])) in
    let before : tokens_of H ≡ map (token_of (H ++ r ∷ [])) (kept_places (length H)) =
    sym (tokens_before H r (retired (length H) + 1) (length H - retired (length H)) (omega arith)) in
    ap (λ n. map (token_of (H ++ r ∷ [])) (kept_places n)) long
    ∙ kept_next (token_of (H ++ r ∷ [])) (length H) (length (tokens_of H)) (length-map-range_with_len (token_of H) _ _)
    ∙ ap (λ ts. drop (retired (length (tokens_of H) + 1)) ts ++ token_of (H ++ r ∷ []) (length H + 1) ∷ []) (sym before)
    ∙ ap (λ t. drop (retired (length (tokens_of H) + 1)) (tokens_of H) ++ t ∷ []) (token_last H r)

-- ---- histories

-- a release after a history
data Parted (H : List ReleaseData) (r : ReleaseData) (before : List ReleaseData) (x : ReleaseData) : Type 0 where
  last_one : before ≡ H → x ≡ r → Parted H r before x
  earlier : (rest : List ReleaseData) → H ≡ before ++ x ∷ rest → Parted H r before x

parted : (H : List ReleaseData) (r : ReleaseData) (before : List ReleaseData) (x : ReleaseData) (after : List ReleaseData) → H ++ r ∷ [] ≡ before ++ x ∷ after
    → Parted H r before x
parted [] r [] x after e = last_one refl (cc)
parted [] r (b ∷ bs) x after e = absurd (omega (arith, ap length e, length-append bs (x ∷ after)))
parted (h ∷ hs) r [] x after e = earlier hs (let same : h ≡ x = cc in ap (λ y. y ∷ hs) same)
parted (h ∷ hs) r (b ∷ bs) x after e = by (parted hs r bs x after (cc)) (cc)
  where
    by : Parted hs r bs x → h ≡ b → Parted (h ∷ hs) r (b ∷ bs) x
    by (last_one f g) k = last_one (ap (λ ys. b ∷ ys) f ∙ ap (λ y. y ∷ hs) (sym k)) g
    by (earlier rest f) k = earlier rest (ap (λ y. y ∷ hs) k ∙ ap (λ ys. b ∷ ys) f)

pub history_grown : (sound : ReleaseData → Type 0) (H : List ReleaseData) (r : ReleaseData) → IsHistory sound H → IsRelease sound H r
    → IsHistory sound (H ++ r ∷ [])
history_grown sound H r h is before x after e = by (parted H r before x after e)
  where
    by : Parted H r before x → IsRelease sound before x
    by (last_one f g) = subst (λ y. IsRelease sound before y) (sym g) (subst (λ b. IsRelease sound b r) (sym f) is)
    by (earlier rest f) = h before x rest f

-- ---- the next catalogue

pub places_are : {Z : Type 0} (bytes : Z → List ℕ) (sound : ReleaseData → Type 0) (k : Catalogue Z) (H : List ReleaseData) → StandsFor bytes sound k H
    → place_count k ≡ length H
places_are bytes sound k H s = s.places.0

next_content : (H : List ReleaseData) (x r : ReleaseData) (n : ℕ) (c : ContentData) → (entry_next H x r n c).content ≡ c
next_content H x r n c = by (has_content c x)
  where
    by : (b : Bool) → (if b then entry_of H x c else entry_from r n c).content ≡ c
    by true = refl
    by false = refl

next_contents : (H : List ReleaseData) (x r : ReleaseData) (n : ℕ) (cs : List ContentData) → map (λ c. (entry_next H x r n c).content) cs ≡ cs
next_contents H x r n [] = refl
next_contents H x r n (c ∷ cs) =
    ap (λ d. d ∷ map (λ e. (entry_next H x r n e).content) cs) (next_content H x r n c) ∙ ap (λ ds. c ∷ ds) (next_contents H x r n cs)

pub stands_next : {Z : Type 0} (bytes : Z → List ℕ) (sound : ReleaseData → Type 0) (old new : Catalogue Z) (H : List ReleaseData) (r : ReleaseData)
    → StandsFor bytes sound old H → IsInOrder r → sound r → FitsAfter (Some (release_held bytes old)) (place_count old) r
    → release_of new.head r.contents ≡ r
    → map (held_entry bytes) new.held ≡ map (entry_next H (release_held bytes old) r (place_count old + 1)) r.contents
    → map held_digest new.held ≡ map content_digest r.contents
    → new.chain ≡ linked old.chain r
    → place_count new ≡ place_count old + 1
    → new.tokens ≡ drop (retired (length old.tokens + 1)) old.tokens ++ token_text (place_count old + 1) new.chain ∷ []
    → StandsFor bytes sound new (H ++ r ∷ [])
stands_next bytes sound old new H r s in_order is_sound fits head entries digests chain count tokens =
    let x = release_held bytes old in
    let places = places_are bytes sound old H s in
    let last : Last sound H x = last_of sound H x s.history s.last in
    let fits_last : FitsAfter (last_release H) (length H) r =
    subst (λ n. FitsAfter (last_release H) n r) places (subst (λ o. FitsAfter o (place_count old) r) (sym s.last) fits) in
    let content : EntryData → ContentData = λ (d : EntryData). d.content in
    let held : map (held_content bytes) new.held ≡ r.contents =
    sym (map-map content (held_entry bytes) new.held) ∙ ap (map content) entries
    ∙ map-map content (entry_next H x r (place_count old + 1)) r.contents ∙ next_contents H x r (place_count old + 1) r.contents in
    let chained : new.chain ≡ chain_of (H ++ r ∷ []) = chain ∙ ap (λ v. linked v r) s.chain ∙ sym (chain_next H r) in
    let grown : meta (H ++ r ∷ []) ≡ map (entry_next H x r (length H + 1)) r.contents =
    subst (λ G. meta (G ++ r ∷ []) ≡ map (entry_next G x r (length G + 1)) r.contents) (sym last.is) (meta_next last.before x r) in
    record {
      history = history_grown sound H r s.history (record { in_order = in_order; is_sound = is_sound; fits = fits_last });
      last = last_added None H r ∙ ap Some (sym head ∙ ap (release_of new.head) (sym held));
      entries = entries ∙ ap (λ n. map (entry_next H x r (n + 1)) r.contents) places ∙ sym grown;
      digests = digests ∙ ap (map content_digest) (sym held) ∙ map-map content_digest (held_content bytes) new.held;
      chain = chained;
      places = (
        omega (arith, count, places, length-append H (r ∷ [])),
        tokens ∙ ap (λ ts. drop (retired (length ts + 1)) ts ++ token_text (place_count old + 1) new.chain ∷ []) s.places.1
            ∙ ap (λ n. drop (retired (length (tokens_of H) + 1)) (tokens_of H) ++ token_text (n + 1) new.chain ∷ []) places
            ∙ ap (λ v. drop (retired (length (tokens_of H) + 1)) (tokens_of H) ++ token_text (length H + 1) v ∷ []) chained
            ∙ sym (tokens_next H r),
      );
    }
