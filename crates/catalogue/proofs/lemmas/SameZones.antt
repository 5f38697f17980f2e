-- The zone of a catalogue with the same content, and its entry.
use Rattle.std.proofs.Common.{◌≡◌, ℕ, zero, suc, ◌+◌, ◌-◌, ◌<◌, ◌≤◌, Bool, true, false, cond, if◌then◌else◌, ◌&&◌, ◌||◌, None, Some, List, [], ◌∷◌, ◌++◌}
use Rattle.std.proofs.Common.{length, get_or, refl, sym, ap, ◌∙◌, subst, map, arith}
use Rattle.std.specs.List.{AllByRecursion, IsDistinct, list_any, position_from}
use Rattle.std.specs.Cmp.Lexicographic.{pointwise, pointwise_decides}
use Rattle.std.specs.Str.{bytes_eq}
use Rattle.std.proofs.lemmas.Simd.{map-map}
use Rattle.std.proofs.lemmas.Slice.Eq.{bytes_eq-Decides}
use Rattle.catalogue.specs.Releases.{ContentData, ReleaseData, names_of, same_content}
use Rattle.catalogue.specs.Digests.{content_digest}
use Rattle.catalogue.specs.Growing.{entry_next}
use Rattle.catalogue.specs.HeldZones.{held_content, held_digest, held_entry}
use Rattle.catalogue.specs.Histories.{EntryData, entries_of, entry_from, entry_of, has_content, meta}
use Rattle.catalogue.specs.Holdings.{StandsFor, release_held}
use Rattle.catalogue.specs.Lookups.{is_name_of, place_named}
use Rattle.catalogue.specs.declared.holding.Catalogue.{Catalogue}
use Rattle.catalogue.proofs.AnyOrder.{Apart, Parts, parted}
use Rattle.catalogue.proofs.lemmas.LastRelease.{last_of}
use Rattle.catalogue.proofs.lemmas.NameIndex.{position-map}

-- ---- equal contents

and_both : (a b : Bool) → (a && b) ≡ true → (a ≡ true) × (b ≡ true)
and_both true b h = (refl, h)
and_both false b h = absurd (cc)

abbrev content : List ℕ → List (List ℕ) → List ℕ → ContentData
content tzid aliases file = record { tzid = tzid; aliases = aliases; file = file }

pub same_is : (c d : ContentData) → same_content c d ≡ true → c ≡ d
same_is c d h =
    let one = and_both (bytes_eq c.tzid d.tzid && pointwise bytes_eq c.aliases d.aliases) (bytes_eq c.file d.file) h in
    let two = and_both (bytes_eq c.tzid d.tzid) (pointwise bytes_eq c.aliases d.aliases) one.0 in
    let tzid : c.tzid ≡ d.tzid = (bytes_eq-Decides c.tzid d.tzid).0 two.0 in
    let aliases : c.aliases ≡ d.aliases = (pointwise_decides bytes_eq-Decides c.aliases d.aliases).0 two.1 in
    let file : c.file ≡ d.file = (bytes_eq-Decides c.file d.file).0 one.1 in
    ap (λ (x : List ℕ). content x c.aliases c.file) tzid ∙ ap (λ (x : List (List ℕ)). content d.tzid x c.file) aliases
    ∙ ap (λ (x : List ℕ). content d.tzid d.aliases x) file

-- a zone of another identifier has another content
other_tzid : (c d : ContentData) → bytes_eq c.tzid d.tzid ≡ false → same_content c d ≡ false
other_tzid c d h = rw h refl

first_false : (a b : Bool) → (a || b) ≡ false → a ≡ false
first_false false b h = refl
first_false true b h = absurd (cc)

not_named : (c d : ContentData) → is_name_of c.tzid d ≡ false → same_content c d ≡ false
not_named c d h = other_tzid c d (first_false (bytes_eq c.tzid d.tzid) _ h)

-- ---- no zone has the content

pub none_named : (c : ContentData) (k : ℕ) (cs : List ContentData) → position_from (is_name_of c.tzid) k cs ≡ None → list_any (same_content c) cs ≡ false
none_named c k [] e = refl
none_named c k (d ∷ ds) e = by (none_named c (k + 1) ds) (is_name_of c.tzid d) refl e
  where
    by : (position_from (is_name_of c.tzid) (k + 1) ds ≡ None → list_any (same_content c) ds ≡ false) → (b : Bool) → is_name_of c.tzid d ≡ b
        → cond b (Some k) (position_from (is_name_of c.tzid) (k + 1) ds) ≡ None → list_any (same_content c) (d ∷ ds) ≡ false
    by again true n e = absurd (cc)
    by again false n e = rw (not_named c d n) (again e)

-- a text of one list is none of the other
apart_text : (t : List ℕ) (xs ys : List (List ℕ)) → Apart xs ys → list_any (bytes_eq t) xs ≡ true → AllByRecursion (λ y. bytes_eq t y ≡ false) ys
apart_text t [] ys apart h = absurd (cc)
apart_text t (x ∷ xs) ys apart h = by (apart_text t xs ys apart.1) (bytes_eq t x) refl h
  where
    by : (list_any (bytes_eq t) xs ≡ true → AllByRecursion (λ y. bytes_eq t y ≡ false) ys) → (b : Bool) → bytes_eq t x ≡ b
        → (b || list_any (bytes_eq t) xs) ≡ true
        → AllByRecursion (λ y. bytes_eq t y ≡ false) ys
    by again true e h = subst (λ z. AllByRecursion (λ y. bytes_eq z y ≡ false) ys) (sym ((bytes_eq-Decides t x).0 e)) apart.0
    by again false e h = again h

after_part : (P : List ℕ → Type 0) (xs ys : List (List ℕ)) → AllByRecursion P (xs ++ ys) → AllByRecursion P ys
after_part P [] ys all = all
after_part P (x ∷ xs) ys all = after_part P xs ys all.1

none_of_tzid : (c : ContentData) (cs : List ContentData) → AllByRecursion (λ y. bytes_eq c.tzid y ≡ false) (names_of cs) → list_any (same_content c) cs ≡ false
none_of_tzid c [] all = refl
none_of_tzid c (d ∷ ds) all = rw (other_tzid c d all.0) (none_of_tzid c ds (after_part (λ y. bytes_eq c.tzid y ≡ false) d.aliases (names_of ds) all.1))

not_before : (p : ContentData → Bool) (k i : ℕ) (cs : List ContentData) → position_from p k cs ≡ Some i → k ≤ i
not_before p k i [] e = absurd (cc)
not_before p k i (d ∷ ds) e = by (not_before p (k + 1) i ds) (p d) e
  where
    by : (position_from p (k + 1) ds ≡ Some i → k + 1 ≤ i) → (b : Bool) → cond b (Some k) (position_from p (k + 1) ds) ≡ Some i → k ≤ i
    by again true e = let same : k ≡ i = cc in omega arith
    by again false e = omega (arith, again e)

-- where the zone that has the identifier has another content, none has the content
pub other_content : (c : ContentData) (k i : ℕ) (cs : List ContentData) (d : ContentData) → IsDistinct bytes_eq (names_of cs)
    → position_from (is_name_of c.tzid) k cs ≡ Some i → same_content c (get_or cs (i - k) d) ≡ false → list_any (same_content c) cs ≡ false
other_content c k i [] d distinct e other = refl
other_content c k i (x ∷ xs) d distinct e other = by (other_content c (k + 1) i xs d parts.back) (is_name_of c.tzid x) refl e
  where
    parts : Parts (x.tzid ∷ x.aliases) (names_of xs)
    parts = parted (x.tzid ∷ x.aliases) (names_of xs) distinct

    here : is_name_of c.tzid x ≡ true → k ≡ i → list_any (same_content c) (x ∷ xs) ≡ false
    here n same =
        let none : i - k ≡ 0 = omega arith in
        let first : same_content c x ≡ false = subst (λ m. same_content c (get_or (x ∷ xs) m d) ≡ false) none other in
        rw first (none_of_tzid c xs (apart_text c.tzid (x.tzid ∷ x.aliases) (names_of xs) parts.apart n))

    later : is_name_of c.tzid x ≡ false → k + 1 ≤ i → (same_content c (get_or xs (i - (k + 1)) d) ≡ false → list_any (same_content c) xs ≡ false)
        → list_any (same_content c) (x ∷ xs) ≡ false
    later n le again =
        let more : i - k ≡ suc (i - (k + 1)) = omega arith in
        rw (not_named c x n) (again (subst (λ m. same_content c (get_or (x ∷ xs) m d) ≡ false) more other))

    by : (position_from (is_name_of c.tzid) (k + 1) xs ≡ Some i → same_content c (get_or xs (i - (k + 1)) d) ≡ false → list_any (same_content c) xs ≡ false)
        → (b : Bool) → is_name_of c.tzid x ≡ b → cond b (Some k) (position_from (is_name_of c.tzid) (k + 1) xs) ≡ Some i
        → list_any (same_content c) (x ∷ xs) ≡ false
    by again true n e = here n (cc)
    by again false n e = later n (not_before (is_name_of c.tzid) (k + 1) i xs e) (again e)

-- ---- items at a place

mapped_at : {X Y : Type 0} (f : X → Y) (xs : List X) (i : ℕ) (x : X) (d : Y) → i < length xs → x ≡ get_or xs i x → get_or (map f xs) i d ≡ f x
mapped_at f [] i x d lt is = absurd (omega arith)
mapped_at f (y ∷ ys) zero x d lt is = ap f (sym is)
mapped_at f (y ∷ ys) (suc i) x d lt is = mapped_at f ys i x d (omega arith) is

same_at : {X Y : Type 0} (f g : X → Y) (xs : List X) (i : ℕ) (x : X) → map f xs ≡ map g xs → i < length xs → x ≡ get_or xs i x → f x ≡ g x
same_at f g [] i x same lt is = absurd (omega arith)
same_at f g (y ∷ ys) zero x same lt is = let one : f y ≡ g y = cc in subst (λ z. f z ≡ g z) (sym is) one
same_at f g (y ∷ ys) (suc i) x same lt is = same_at f g ys i x (cc) (omega arith) is

any_at : (p : ContentData → Bool) (cs : List ContentData) (i : ℕ) (d : ContentData) → i < length cs → p (get_or cs i d) ≡ true → list_any p cs ≡ true
any_at p [] i d lt h = absurd (omega arith)
any_at p (c ∷ cs) zero d lt h = rw h refl
any_at p (c ∷ cs) (suc i) d lt h = rw (any_at p cs i d (omega arith) h) (or_true (p c))
  where
    or_true : (b : Bool) → (b || true) ≡ true
    or_true true = refl
    or_true false = refl

-- ---- in a catalogue

module _ {Z : Type 0} (bytes : Z → List ℕ) (sound : ReleaseData → Type 0) (k : Catalogue Z) (H : List ReleaseData) (s : StandsFor bytes sound k H) where
  contents_are : map (λ (e : EntryData). e.content) (meta H) ≡ map (held_content bytes) k.held
  contents_are = ap (map (λ (e : EntryData). e.content)) (sym s.entries) ∙ map-map (λ (e : EntryData). e.content) (held_entry bytes) k.held

  named_is : (name : List ℕ) → place_named H name ≡ position_from (is_name_of name) 0 (map (held_content bytes) k.held)
  unfolding place_named
  named_is name =
      sym (position-map (is_name_of name) (λ (e : EntryData). e.content) 0 (meta H)) ∙ ap (position_from (is_name_of name) 0) contents_are

  pub none_held : (c : ContentData) → None ≡ place_named H c.tzid → has_content c (release_held bytes k) ≡ false
  none_held c none = none_named c 0 (map (held_content bytes) k.held) (sym (named_is c.tzid) ∙ sym none)

  pub other_held : (c : ContentData) (i : ℕ) (h : _) → Some i ≡ place_named H c.tzid → i < length k.held → h ≡ get_or k.held i h
      → same_content c (held_content bytes h) ≡ false → has_content c (release_held bytes k) ≡ false
  other_held c i h at lt is other =
      let place : i - 0 ≡ i = omega arith in
      let there : get_or (map (held_content bytes) k.held) (i - 0) (held_content bytes h) ≡ held_content bytes h =
      ap (λ n. get_or (map (held_content bytes) k.held) n (held_content bytes h)) place
      ∙ mapped_at (held_content bytes) k.held i h (held_content bytes h) lt is in
      other_content c 0 i (map (held_content bytes) k.held) (held_content bytes h)
      (last_of sound H _ s.history s.last).release.fits.distinct
      (sym (named_is c.tzid) ∙ sym at)
      (ap (same_content c) there ∙ other)

  entries_are : map (held_entry bytes) k.held ≡ map (λ h. entry_of H (release_held bytes k) (held_content bytes h)) k.held
  unfolding meta
  entries_are = s.entries ∙ ap (entries_of H) s.last ∙ map-map (entry_of H (release_held bytes k)) (held_content bytes) k.held

  pub kept_entry : (c : ContentData) (r : ReleaseData) (n i : ℕ) (h : _) → i < length k.held → h ≡ get_or k.held i h
      → same_content c (held_content bytes h) ≡ true
      → held_entry bytes h ≡ entry_next H (release_held bytes k) r n c
  kept_entry c r n i h lt is same =
      let one : held_entry bytes h ≡ entry_of H (release_held bytes k) (held_content bytes h) =
      same_at (held_entry bytes) (λ z. entry_of H (release_held bytes k) (held_content bytes z)) k.held i h entries_are lt is in
      let has : has_content c (release_held bytes k) ≡ true =
      any_at (same_content c) (map (held_content bytes) k.held) i (held_content bytes h)
      (rw (Rattle.std.proofs.lemmas.List.length-map k.held (held_content bytes)) lt)
      (ap (same_content c) (mapped_at (held_content bytes) k.held i h (held_content bytes h) lt is) ∙ same) in
      one ∙ ap (entry_of H (release_held bytes k)) (sym (same_is c (held_content bytes h) same))
      ∙ ap (λ b. if b then entry_of H (release_held bytes k) c else entry_from r n c) (sym has)

  pub kept_digest : (c : ContentData) (i : ℕ) (h : _) → i < length k.held → h ≡ get_or k.held i h → same_content c (held_content bytes h) ≡ true
      → held_digest h ≡ content_digest c
  kept_digest c i h lt is same =
      same_at held_digest (λ z. content_digest (held_content bytes z)) k.held i h s.digests lt is
      ∙ ap content_digest (sym (same_is c (held_content bytes h) same))
