-- A catalogue of one release stands for the history of that release.
use Rattle.std.proofs.Common.{◌≡◌, ℕ, ◌-◌, Bool, true, false, ◌||◌, Some, List, [], ◌∷◌, ◌++◌, length, refl, ap, sym, ◌∙◌, subst, map, arith, length-append}
use Rattle.std.proofs.Common.{append_assoc}
use Rattle.std.specs.Prelude.{replicate}
use Rattle.std.specs.List.{AllByRecursion, list_any, slice_index_or}
use Rattle.std.specs.Str.{bytes_eq}
use Rattle.std.specs.Cmp.Lexicographic.{pointwise}
use Rattle.std.proofs.lemmas.Simd.{map-map}
use Rattle.std.proofs.lemmas.Cmp.{nat_list_eq_equiv}
use Rattle.catalogue.specs.Releases.{ContentData, ReleaseData, same_content}
use Rattle.catalogue.specs.Digests.{chain_of, content_digest, linked, token_text}
use Rattle.catalogue.specs.Histories.{IsRelease, IsHistory, EntryData, entry_from, entry_of, has_content, last_change, meta, token_of, tokens_of}
use Rattle.catalogue.specs.HeldZones.{held_content, held_digest, held_entry}
use Rattle.catalogue.specs.Holdings.{StandsFor, place_count, release_of}
use Rattle.catalogue.specs.declared.holding.Catalogue.{Catalogue}

same_texts : (xs : List (List ℕ)) → pointwise bytes_eq xs xs ≡ true
same_texts [] = refl
same_texts (x ∷ xs) = rw (nat_list_eq_equiv.refl x) (same_texts xs)

same_itself : (c : ContentData) → same_content c c ≡ true
same_itself c = rw (nat_list_eq_equiv.refl c.tzid, same_texts c.aliases) (nat_list_eq_equiv.refl c.file)

or_true : (b : Bool) → (b || true) ≡ true
or_true true = refl
or_true false = refl

any_there : (p : ContentData → Bool) (front : List ContentData) (c : ContentData) (cs : List ContentData) → p c ≡ true → list_any p (front ++ c ∷ cs) ≡ true
any_there p [] c cs h = rw h
any_there p (x ∷ xs) c cs h = rw (any_there p xs c cs h) (or_true (p x))

each_found : (front cs : List ContentData) → AllByRecursion (λ c. list_any (same_content c) (front ++ cs) ≡ true) cs
each_found front [] = tt
each_found front (c ∷ cs) = (
  any_there (same_content c) front c cs (same_itself c),
  subst (λ all. AllByRecursion (λ d. list_any (same_content d) all ≡ true) cs) (append_assoc front (c ∷ []) cs) (each_found (front ++ c ∷ []) cs),
)

-- each content of a release is one of its contents
pub each_content : (r : ReleaseData) → AllByRecursion (λ c. has_content c r ≡ true) r.contents
each_content r = each_found [] r.contents

first_change : (r : ReleaseData) (c : ContentData) → has_content c r ≡ true → last_change (r ∷ []) c ≡ 1
unfolding last_change
first_change r c h = rw h

entries_first : (r : ReleaseData) (cs : List ContentData) → AllByRecursion (λ c. has_content c r ≡ true) cs
    → map (entry_of (r ∷ []) r) cs ≡ map (entry_from r 1) cs
entries_first r [] h = refl
entries_first r (c ∷ cs) h =
    ap (λ n. entry_from (slice_index_or (r ∷ []) (n - 1) r) n c ∷ map (entry_of (r ∷ []) r) cs) (first_change r c h.0)
    ∙ ap (λ es. entry_from r 1 c ∷ es) (entries_first r cs h.1)

one_release : (sound : ReleaseData → Type 0) (r : ReleaseData) → IsRelease sound [] r → IsHistory sound (r ∷ [])
one_release sound r is [] r' after e = let same : r ≡ r' = cc in subst (IsRelease sound []) same is
one_release sound r is (x ∷ before) r' after e = absurd (omega (arith, ap length e, length-append before (r' ∷ after)))

pub mapped_ids : {X : Type 0} (xs : List X) → map (λ x. x) xs ≡ xs
mapped_ids [] = refl
mapped_ids (x ∷ xs) = ap (λ ys. x ∷ ys) (mapped_ids xs)

pub stands_first : {Z : Type 0} (bytes : Z → List ℕ) (sound : ReleaseData → Type 0) (c : Catalogue Z) (r : ReleaseData)
    → IsRelease sound [] r → release_of c.head r.contents ≡ r
    → map (held_entry bytes) c.held ≡ map (entry_from r 1) r.contents → map held_digest c.held ≡ map content_digest r.contents
    → place_count c ≡ 1 → c.chain ≡ linked (replicate 32 0) r → c.tokens ≡ token_text 1 c.chain ∷ []
    → StandsFor bytes sound c (r ∷ [])
unfolding meta chain_of tokens_of token_of
stands_first bytes sound c r is head entries digests count chain tokens =
    let content : EntryData → ContentData = λ (d : EntryData). d.content in
    let held : map (held_content bytes) c.held ≡ r.contents =
    sym (map-map content (held_entry bytes) c.held) ∙ ap (map content) entries
    ∙ map-map content (entry_from r 1) r.contents ∙ mapped_ids r.contents in
    record {
      history = one_release sound r is;
      last = ap Some (sym head ∙ ap (release_of c.head) (sym held));
      entries = entries ∙ sym (entries_first r r.contents (each_content r));
      digests = digests ∙ ap (map content_digest) (sym held) ∙ map-map content_digest (held_content bytes) c.held;
      chain = chain;
      places = (count, tokens ∙ ap (λ v. token_text 1 v ∷ []) chain);
    }
