-- The entry that a name finds is that of the zone that has the name.
use Rattle.std.proofs.Common.{◌≡◌, ℕ, suc, ◌+◌, Bool, true, false, cond, Option, None, Some, List, [], ◌∷◌, refl, ap, ◌∙◌, map, option_map, option_and_then}
use Rattle.std.proofs.Common.{arith}
use Rattle.std.specs.List.{find, position_from, slice_get}
use Rattle.catalogue.specs.Histories.{EntryData, entry_of, entries_of, last_release, meta}
use Rattle.catalogue.specs.Lookups.{contents_of, is_name_of, named, place_named, zones_of}
use Rattle.catalogue.specs.Releases.{ContentData, ReleaseData}

abbrev pub content_at : EntryData → ContentData
content_at e = e.content

later : {X : Type 0} (p : X → Bool) (k : ℕ) (xs : List X) → position_from p (k + 1) xs ≡ option_map suc (position_from p k xs)
later p k [] = refl
later p k (x ∷ xs) = by (p x) (later p (k + 1) xs)
  where
    by : (b : Bool) → position_from p (k + 1 + 1) xs ≡ option_map suc (position_from p (k + 1) xs)
        → cond b (Some (k + 1)) (position_from p (k + 1 + 1) xs) ≡ option_map suc (cond b (Some k) (position_from p (k + 1) xs))
    by true h = ap Some (omega arith)
    by false h = h

past : {X : Type 0} (x : X) (xs : List X) (o : Option ℕ) → option_and_then (slice_get (x ∷ xs)) (option_map suc o) ≡ option_and_then (slice_get xs) o
past x xs None = refl
past x xs (Some k) = refl

-- the item at the first position at which a test passes
found_at : {X : Type 0} (p : X → Bool) (xs : List X) → option_and_then (slice_get xs) (position_from p 0 xs) ≡ find p xs
found_at p [] = refl
found_at p (x ∷ xs) = by (p x) (ap (option_and_then (slice_get (x ∷ xs))) (later p 0 xs) ∙ past x xs (position_from p 0 xs) ∙ found_at p xs)
  where
    by : (b : Bool) → option_and_then (slice_get (x ∷ xs)) (position_from p (0 + 1) xs) ≡ find p xs
        → option_and_then (slice_get (x ∷ xs)) (cond b (Some 0) (position_from p (0 + 1) xs)) ≡ cond b (Some x) (find p xs)
    by true h = refl
    by false h = h

named_entry : (H : List ReleaseData) (last : ReleaseData) (name : List ℕ) (cs : List ContentData)
    → option_map content_at (find (λ e. is_name_of name e.content) (map (entry_of H last) cs)) ≡ named cs name
named_entry H last name [] = refl
named_entry H last name (c ∷ cs) = by (is_name_of name c) (named_entry H last name cs)
  where
    by : (b : Bool) → option_map content_at (find (λ e. is_name_of name e.content) (map (entry_of H last) cs)) ≡ named cs name
        → option_map content_at (cond b (Some (entry_of H last c)) (find (λ e. is_name_of name e.content) (map (entry_of H last) cs))) ≡ cond b (Some c)
        (named cs name)
    by true h = refl
    by false h = h

pub entry_named : (H : List ReleaseData) (name : List ℕ)
    → option_map content_at (option_and_then (slice_get (meta H)) (place_named H name)) ≡ named (zones_of H) name
unfolding place_named meta
entry_named H name = ap (option_map content_at) (found_at (λ (e : EntryData). is_name_of name e.content) (entries_of H (last_release H))) ∙ by (last_release H)
  where
    by : (o : Option ReleaseData) → option_map content_at (find (λ e. is_name_of name e.content) (entries_of H o)) ≡ named (contents_of o) name
    by None = refl
    by (Some last) = named_entry H last name last.contents
