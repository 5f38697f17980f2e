-- How the requests are put together, and which tag they tell.
use Rattle.std.proofs.Common.{◌≡◌, ℕ, List, ◌++◌, Option, None, Some, sym, ap, ◌∙◌, append_assoc}
use Rattle.std.specs.Prelude.{option_and_then}
use Rattle.std.specs.List.{slice_get}
use Rattle.std.specs.Option.{option_map}
use Rattle.catalogue.specs.Histories.{EntryData, meta}
use Rattle.catalogue.specs.Lookups.{place_named}
use Rattle.catalogue.specs.Releases.{ReleaseData}
use Rattle.made_load.specs.Requests.{tag_named}

pub head_parts : (out get target version lines end : List ℕ)
    → ((((out ++ get) ++ target) ++ version) ++ lines) ++ end ≡ out ++ (get ++ (target ++ (version ++ (lines ++ end))))
head_parts out get target version lines end = simp append_assoc

pub three_parts : (out a b c : List ℕ) → ((out ++ a) ++ b) ++ c ≡ out ++ (a ++ (b ++ c))
three_parts out a b c = simp append_assoc

abbrev tag_at : List ReleaseData → ℕ → Option (List ℕ)
tag_at H i = option_map (λ e. e.tag) (slice_get (meta H) i)

pub tag_found : (H : List ReleaseData) (name : List ℕ) (i : ℕ) (e : EntryData) → Some i ≡ place_named H name → slice_get (meta H) i ≡ Some e
    → tag_named H name ≡ Some e.tag
unfolding tag_named
tag_found H name i e at is = ap (λ o. option_and_then (tag_at H) o) (sym at) ∙ ap (option_map (λ e. e.tag)) is

pub tag_absent : (H : List ReleaseData) (name : List ℕ) → None ≡ place_named H name → tag_named H name ≡ None
unfolding tag_named
tag_absent H name at = ap (λ o. option_and_then (tag_at H) o) (sym at)
