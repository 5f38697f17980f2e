-- Names of the last release that are missing, in their order.
use Rattle.std.proofs.Common.{◌≡◌, ℕ, ◌+◌, Bool, true, false, List, [], ◌∷◌, drop}
use Rattle.std.proofs.Common.{Some, refl, ap, sym, ◌∙◌}
use Rattle.std.specs.List.{list_any, slice_get}
use Rattle.std.specs.Str.{bytes_eq}
use Rattle.std.proofs.lemmas.List.{at_drop_more}
use Rattle.std.proofs.lemmas.Option.{slice_get_within, get_or_from_slice_get}
use Rattle.catalogue.specs.Holdings.{names_held, release_held}
use Rattle.catalogue.specs.declared.holding.Catalogue.{Catalogue}
use Rattle.zone_meaning.specs.ZoneHistories.{zone_bytes}
use Rattle.release_check.specs.Before.{drop_fault, first_missing}
use Rattle.release_check.specs.declared.check_fault.CheckFault.TheVariants as fault

drop_step : (xs : List (List ℕ)) (i : ℕ) (x : List ℕ) → slice_get xs i ≡ Some x → drop i xs ≡ x ∷ drop (i + 1) xs
drop_step xs i x h =
    at_drop_more (λ (ys : List (List ℕ)). ys) xs i x (slice_get_within xs i x h)
    ∙ ap (λ y. y ∷ drop (i + 1) xs) (get_or_from_slice_get xs i x x h)

pub there : (new : List (List ℕ)) (name : List ℕ) (rest : List (List ℕ)) → list_any (bytes_eq name) new ≡ true
    → first_missing (name ∷ rest) new ≡ first_missing rest new
there new name rest h = rw h refl

pub gone : (new : List (List ℕ)) (name : List ℕ) (rest : List (List ℕ)) → list_any (bytes_eq name) new ≡ false
    → first_missing (name ∷ rest) new ≡ Some (fault.Drops name)
gone new name rest h = rw h refl

-- what the names from one on tell is what all do
abbrev pub MissingFrom : List (List ℕ) → List (List ℕ) → ℕ → Type 0
MissingFrom old new i = first_missing (drop i old) new ≡ first_missing old new

pub missing_next : (old new : List (List ℕ)) (i : ℕ) (name : List ℕ) → slice_get old i ≡ Some name → list_any (bytes_eq name) new ≡ true
    → MissingFrom old new i → MissingFrom old new (i + 1)
missing_next old new i name is h so_far =
    sym (ap (λ xs. first_missing xs new) (drop_step old i name is) ∙ there new name (drop (i + 1) old) h) ∙ so_far

pub missing_here : (old new : List (List ℕ)) (i : ℕ) (name : List ℕ) → slice_get old i ≡ Some name → list_any (bytes_eq name) new ≡ false
    → MissingFrom old new i → first_missing old new ≡ Some (fault.Drops name)
missing_here old new i name is h so_far =
    sym so_far ∙ ap (λ xs. first_missing xs new) (drop_step old i name is) ∙ gone new name (drop (i + 1) old) h

-- the same of the same names, however they are kept
one_same : (x : List ℕ) (xs a b : List (List ℕ)) (p q : Bool) → list_any (bytes_eq x) a ≡ p → list_any (bytes_eq x) b ≡ q → p ≡ q
    → first_missing xs a ≡ first_missing xs b → first_missing (x ∷ xs) a ≡ first_missing (x ∷ xs) b
one_same x xs a b true true e f same rest = there a x xs e ∙ rest ∙ sym (there b x xs f)
one_same x xs a b true false e f same rest = absurd cc
one_same x xs a b false true e f same rest = absurd cc
one_same x xs a b false false e f same rest = gone a x xs e ∙ sym (gone b x xs f)

pub same_missing : (old a b : List (List ℕ)) → ((text : List ℕ) → list_any (bytes_eq text) a ≡ list_any (bytes_eq text) b)
    → first_missing old a ≡ first_missing old b
same_missing [] a b same = refl
same_missing (x ∷ xs) a b same = one_same x xs a b _ _ refl refl (same x) (same_missing xs a b same)

-- and so they tell which name of the release is dropped that a catalogue holds
pub drops_are : (c : Catalogue (List ℕ)) (kept names : List (List ℕ)) → ((text : List ℕ) → list_any (bytes_eq text) kept ≡ list_any (bytes_eq text) names)
    → first_missing (names_held zone_bytes c) kept ≡ drop_fault (Some (release_held zone_bytes c)) names
unfolding names_held
drops_are c kept names same = same_missing _ kept names same
