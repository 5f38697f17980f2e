-- The zone that a name finds is one of the last release, and has the name.
use Rattle.std.proofs.Common.{◌≡◌, ◌⊎◌, ℕ, zero, suc, ◌+◌, ◌≤◌, List, [], ◌∷◌, ◌++◌, map, Bool, true, false, ◌||◌, Option, None, Some, cond, refl, ap, sym, subst, ◌∙◌, arith, inl, inr}
use Rattle.std.specs.List.{AllByRecursion, Contains, list_all, list_any, position_from, slice_get}
use Rattle.std.specs.Prelude.{option_and_then}
use Rattle.std.specs.Str.{bytes_eq}
use Rattle.std.proofs.lemmas.Bool.{and_parts}
use Rattle.std.proofs.lemmas.List.Folds.{list_all-append}
use Rattle.std.proofs.lemmas.Slice.Eq.{bytes_eq-Decides}
use Rattle.td_base.specs.Names.{is_identifier}
use Rattle.catalogue.specs.Histories.{EntryData, IsHistory, IsRelease, entries_of, entry_of, last_release, meta}
use Rattle.catalogue.specs.Lookups.{contents_of, is_name_of, place_named, zones_of}
use Rattle.catalogue.specs.Releases.{ContentData, ReleaseData, names_of}
use Rattle.catalogue.proofs.lemmas.LastRelease.{last_of}
use Rattle.recurrence.specs.Spellable.{IsSafe}
use Rattle.vtimezone.proofs.lemmas.Identifiers.{identifier_is_safe}
use Rattle.zone_meaning.specs.Sound.{IsSound, IsSoundFile}
use Rattle.zone_meaning.proofs.lemmas.Members.{member_first, member_later, member_cases, no_member}
use Rattle.answer_laws.specs.Requested.{IsNamed}

-- ---- what a search finds

either : (b : Bool) (at : ℕ) (later : Option ℕ) (n : ℕ) → cond b (Some at) later ≡ Some n → ((b ≡ true) × (at ≡ n)) ⊎ (later ≡ Some n)
either true at later n h = inl (refl, cc)
either false at later n h = inr h

at_least : {A : Type 0} (p : A → Bool) (at : ℕ) (xs : List A) (n : ℕ) → position_from p at xs ≡ Some n → at ≤ n
at_least p at [] n h = absurd cc
at_least p at (x ∷ xs) n h =
    elim (either (p x) at (position_from p (at + 1) xs) n h) [
      | inl here ↦ let same : at ≡ n = here.1 in omega arith
      | inr rest ↦ let more : at + 1 ≤ n = at_least p (at + 1) xs n rest in omega arith
    ]

passes : {A : Type 0} (p : A → Bool) (at k : ℕ) (xs : List A) (x : A) → position_from p at xs ≡ Some (at + k) → slice_get xs k ≡ Some x → p x ≡ true
passes p at k [] x h there = absurd cc
passes p at zero (y ∷ ys) x h there =
    elim (either (p y) at (position_from p (at + 1) ys) (at + zero) h) [
      | inl here ↦ let same : y ≡ x = cc in subst (λ z. p z ≡ true) same here.0
      | inr rest ↦ let more : at + 1 ≤ at + zero = at_least p (at + 1) ys (at + zero) rest in absurd (omega arith)
    ]
passes p at (suc k) (y ∷ ys) x h there =
    elim (either (p y) at (position_from p (at + 1) ys) (at + suc k) h) [
      | inl here ↦ let same : at ≡ at + suc k = here.1 in absurd (omega arith)
      | inr rest ↦ let moved : at + suc k ≡ (at + 1) + k = omega arith in passes p (at + 1) k ys x (rest ∙ ap Some moved) there
    ]

one_or_more : (a b : Bool) → (a || b) ≡ true → (a ≡ true) ⊎ (b ≡ true)
one_or_more true b h = inl refl
one_or_more false b h = inr h

among : (name : List ℕ) (texts : List (List ℕ)) → list_any (bytes_eq name) texts ≡ true → Contains texts name
among name [] h = absurd cc
among name (text ∷ texts) h =
    elim (one_or_more (bytes_eq name text) (list_any (bytes_eq name) texts) h) [
      | inl same ↦ subst (λ (n : List ℕ). Contains (text ∷ texts) n) (sym ((bytes_eq-Decides name text).0 same)) (member_first text texts)
      | inr rest ↦ member_later text name texts (among name texts rest)
    ]

content_at : (H : List ReleaseData) (last : ReleaseData) (cs : List ContentData) (place : ℕ) (e : EntryData) → slice_get (map (entry_of H last) cs) place ≡ Some e
    → Contains cs e.content
content_at H last [] place e there = absurd cc
content_at H last (c ∷ cs) zero e there =
    let same : entry_of H last c ≡ e = cc in subst (λ (x : EntryData). Contains (c ∷ cs) x.content) same (member_first c cs)
content_at H last (c ∷ cs) (suc place) e there = member_later c e.content cs (content_at H last cs place e there)

zone_at_place : (H : List ReleaseData) (o : Option ReleaseData) (place : ℕ) (e : EntryData) → slice_get (entries_of H o) place ≡ Some e → Contains (contents_of o) e.content
zone_at_place H None place e there = absurd cc
zone_at_place H (Some last) place e there = content_at H last last.contents place e there

named_at : (H : List ReleaseData) (name : List ℕ) (o : Option ℕ) (e : EntryData) → place_named H name ≡ o → option_and_then (slice_get (meta H)) o ≡ Some e
    → IsNamed H name e.content
unfolding place_named meta
named_at H name None e is there = absurd cc
named_at H name (Some place) e is there =
    let moved : position_from (λ x. is_name_of name x.content) 0 (meta H) ≡ Some (0 + place) = is ∙ ap Some (omega arith) in
    record {
      there = zone_at_place H (last_release H) place e there;
      named = among name (e.content.tzid ∷ e.content.aliases) (passes (λ x. is_name_of name x.content) 0 place (meta H) e moved there);
    }

pub found_named : (H : List ReleaseData) (name : List ℕ) (e : EntryData) → option_and_then (slice_get (meta H)) (place_named H name) ≡ Some e → IsNamed H name e.content
found_named H name e found = named_at H name (place_named H name) e refl found

-- ---- what is known of it

each_member : {A : Type 0} (P : A → Type 0) (xs : List A) (x : A) → AllByRecursion P xs → Contains xs x → P x
each_member P [] x all there = absurd (no_member x there)
each_member P (y ∷ ys) x all there =
    elim (member_cases y x ys there) [
      | inl same ↦ subst P same all.0
      | inr later ↦ each_member P ys x all.1 later
    ]

-- what holds of each release of a history, and of its zones
of_last : (P : ContentData → Type 0) (H : List ReleaseData) (o : Option ReleaseData) (c : ContentData)
    → ((before : List ReleaseData) (r : ReleaseData) → IsRelease IsSound before r → AllByRecursion P r.contents) → IsHistory IsSound H → last_release H ≡ o
    → Contains (contents_of o) c → P c
of_last P H None c all history is there = absurd (no_member c there)
of_last P H (Some r) c all history is there = let last = last_of IsSound H r history is in each_member P r.contents c (all last.before r last.release) there

pub zone_is_sound : (H : List ReleaseData) (name : List ℕ) (c : ContentData) → IsHistory IsSound H → IsNamed H name c → IsSoundFile c.file
zone_is_sound H name c history named = of_last (λ x. IsSoundFile x.file) H (last_release H) c (λ before r is. is.is_sound.files) history refl named.there

abbrev HasIdentifiers : ContentData → Type 0
HasIdentifiers c = list_all is_identifier (c.tzid ∷ c.aliases) ≡ true

each_identified : (cs : List ContentData) → list_all is_identifier (names_of cs) ≡ true → AllByRecursion HasIdentifiers cs
each_identified [] all = tt
each_identified (c ∷ cs) all =
    let parts = and_parts (list_all is_identifier (c.tzid ∷ c.aliases)) (list_all is_identifier (names_of cs))
    (sym (list_all-append is_identifier (c.tzid ∷ c.aliases) (names_of cs)) ∙ all) in
    (parts.0, each_identified cs parts.1)

member_identified : (texts : List (List ℕ)) (name : List ℕ) → list_all is_identifier texts ≡ true → Contains texts name → is_identifier name ≡ true
member_identified [] name all there = absurd (no_member name there)
member_identified (t ∷ ts) name all there =
    let parts = and_parts (is_identifier t) (list_all is_identifier ts) all in
    elim (member_cases t name ts there) [
      | inl same ↦ subst (λ (n : List ℕ). is_identifier n ≡ true) same parts.0
      | inr later ↦ member_identified ts name parts.1 later
    ]

zone_identified : (H : List ReleaseData) (name : List ℕ) (c : ContentData) → IsHistory IsSound H → IsNamed H name c → HasIdentifiers c
zone_identified H name c history named =
    of_last HasIdentifiers H (last_release H) c (λ before r is. each_identified r.contents is.fits.identifiers) history refl named.there

pub name_is_safe : (H : List ReleaseData) (name : List ℕ) (c : ContentData) → IsHistory IsSound H → IsNamed H name c → IsSafe name
name_is_safe H name c history named =
    identifier_is_safe name (member_identified (c.tzid ∷ c.aliases) name (zone_identified H name c history named) named.named)

pub tzid_is_safe : (H : List ReleaseData) (name : List ℕ) (c : ContentData) → IsHistory IsSound H → IsNamed H name c → IsSafe c.tzid
tzid_is_safe H name c history named =
    identifier_is_safe c.tzid (member_identified (c.tzid ∷ c.aliases) c.tzid (zone_identified H name c history named) (member_first c.tzid c.aliases))
