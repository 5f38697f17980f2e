-- How a history grows by a release that is given.
use Rattle.std.proofs.Common.{◌≡◌, ℕ, List, [], ◌∷◌, ◌++◌, Option, None, Some, Result, Ok, Err, IfSome, IsErrOf, refl, sym, ap, ◌∙◌, subst}
use Rattle.std.proofs.lemmas.List.{map-append}
use Rattle.admission.specs.Differences.{difference}
use Rattle.admission.specs.Rules.{first_refusing}
use Rattle.admission.specs.declared.delta.Delta.{Delta}
use Rattle.admission.specs.declared.rules.Chosen.{Chosen}
use Rattle.td_base.specs.Views.{File, StoreView}
use Rattle.catalogue.proofs.lemmas.Growing.{last_added}
use Rattle.catalogue.specs.Histories.{Fits}
use Rattle.catalogue.specs.Holdings.{StandsFor, release_held, history_of}
use Rattle.catalogue.specs.Releases.{ReleaseData, release_data}
use Rattle.catalogue.specs.declared.holding.Catalogue.{Catalogue}
use Rattle.catalogue.specs.declared.release.Release.{Release}
use Rattle.zone_meaning.specs.Sound.{IsSound}
use Rattle.zone_meaning.specs.ZoneHistories.{zone_bytes}
use Rattle.release_check.specs.Before.{Before, ForEachBefore, before_of}
use Rattle.release_check.specs.Found.{FindsIn}
use Rattle.release_check.specs.declared.check_fault.CheckFault.{CheckFault}
use Rattle.release_check.specs.declared.check_fault.CheckFault.TheVariants as check
use Rattle.installer.specs.Installing.{GrowsBy, InstallsBy, IsPolicyOf, refusal}
use Rattle.installer.specs.Views.{IsMadeOut}
use Rattle.installer.proofs.lemmas.Refusals.{none_refuses, refusal_is}
use Rattle.installer.specs.declared.install_fault.InstallFault.{InstallFault}
use Rattle.installer.specs.declared.install_fault.InstallFault.TheVariants as fault

abbrev held : Catalogue (List ℕ) → ReleaseData
held c = release_held zone_bytes c

abbrev Stands : Catalogue (List ℕ) → List ReleaseData → Type 0
Stands c H = StandsFor zone_bytes IsSound c H

some_map : {A : Type 0} {P Q : A → Type 0} (o : Option A) → ((x : A) → P x → Q x) → IfSome o P → IfSome o Q
some_map None f h = tt
some_map (Some x) f h = f x h

-- ---- the last release

same_last : (c : Catalogue (List ℕ)) (H : List ReleaseData) (r : ReleaseData) → Stands c (H ++ r ∷ []) → r ≡ held c
same_last c H r s = let e : Some r ≡ Some (held c) = sym (last_added None H r) ∙ s.last in cc e

pub stands_held : (c : Catalogue (List ℕ)) (H : List ReleaseData) (r : ReleaseData) → Stands c (H ++ r ∷ []) → Stands c (H ++ held c ∷ [])
stands_held c H r s = subst (λ x. Stands c (H ++ x ∷ [])) (same_last c H r s) s

pub allowed_held : (c : Catalogue (List ℕ)) (H : List ReleaseData) (r : ReleaseData) (rules : List Chosen) → Stands c (H ++ r ∷ [])
    → refusal rules H r ≡ None → refusal rules H (held c) ≡ None
allowed_held c H r rules s allowed = subst (λ x. refusal rules H x ≡ None) (same_last c H r s) allowed

pub made_out_held : {A : Type 0} (subscribers : List A) (delta : Option Delta) (c : Catalogue (List ℕ)) (H : List ReleaseData) (r : ReleaseData)
    → Stands c (H ++ r ∷ []) → IsMadeOut subscribers delta H r → IsMadeOut subscribers delta H (held c)
made_out_held subscribers delta c H r s made = subst (λ x. IsMadeOut subscribers delta H x) (same_last c H r s) made

-- ---- what rules say after the history that a catalogue stands for

pub asked : (c : Catalogue (List ℕ)) (H : List ReleaseData) (r : ReleaseData) (rules : List Chosen) (delta : Delta) (answer : Option ℕ) → Stands c H
    → delta ≡ difference H r → answer ≡ first_refusing rules delta → refusal rules H r ≡ answer
asked c H r rules delta answer s is e = refusal_is rules H r (held c) s.last ∙ ap (first_refusing rules) (sym is) ∙ sym e

pub not_asked : (rules : List Chosen) (H : List ReleaseData) (r : ReleaseData) → rules ≡ [] → refusal rules H r ≡ None
not_asked rules H r e = ap (λ xs. refusal xs H r) e ∙ none_refuses H r

-- ---- an install

pub grew : {A : Type 0} (gives : List File → Before → Result ReleaseData CheckFault → Type 0) (rules : List Chosen) (old new : StoreView)
    (c : Catalogue (List ℕ)) (H : List ReleaseData) (r : Release (List ℕ)) (next : Catalogue (List ℕ)) (f : A → List ReleaseData) (a : A) → Stands c H
    → FindsIn {T = Release (List ℕ)} old new (Ok r) (λ files. ForEachBefore (Some c) (λ G. gives files (before_of G) (Ok (release_data zone_bytes r))))
    → refusal rules H (release_data zone_bytes r) ≡ None
    → Stands next (H ++ release_data zone_bytes r ∷ [])
    → f a ≡ H ++ held next ∷ []
    → InstallsBy gives rules old new H f (Ok a)
grew gives rules old new c H r next f a s found allowed n e = record {
  later = found.later;
  told = some_map old.files (λ files t. (
    release_data zone_bytes r,
    t H s,
    allowed,
    e ∙ ap (λ x. H ++ x ∷ []) (sym (same_last next H (release_data zone_bytes r) n)),
  )) found.told;
  policy = λ k h. absurd (cc h);
  failed = λ h. absurd (cc h);
  memory = λ h. cc h;
}

-- a release that a rule refuses, or of which it was not found out
pub not_grew : {A : Type 0} (gives : List File → Before → Result ReleaseData CheckFault → Type 0) (rules : List Chosen) (old new : StoreView)
    (c : Catalogue (List ℕ)) (H : List ReleaseData) (f : A → List ReleaseData) (r : Release (List ℕ)) (e : InstallFault) → Stands c H
    → FindsIn {T = Release (List ℕ)} old new (Ok r) (λ files. ForEachBefore (Some c) (λ G. gives files (before_of G) (Ok (release_data zone_bytes r))))
    → IsSound (release_data zone_bytes r) → Fits H (release_data zone_bytes r) → IsPolicyOf rules H (release_data zone_bytes r) e
    → InstallsBy {A = A} gives rules old new H f (Err e)
not_grew gives rules old new c H f r fault.NoMemory s found sound fits why = record {
  later = found.later;
  told = some_map old.files (λ files t. tt) found.told;
  policy = λ k h. absurd (cc h);
  failed = λ h. absurd (cc h);
  memory = λ h. absurd (cc h);
}
not_grew gives rules old new c H f r (fault.Check x) s found sound fits why = absurd why
not_grew gives rules old new c H f r (fault.Policy k) s found sound fits why = record {
  later = found.later;
  told = some_map old.files (λ files t. (release_data zone_bytes r, t H s, why)) found.told;
  policy = λ j h. let same : k ≡ j = cc h in record { release = release_data zone_bytes r; sound = sound; fits = fits; refused = why ∙ ap Some same };
  failed = λ h. absurd (cc h);
  memory = λ h. absurd (cc h);
}

-- the same install, seen by another value
pub seen_as : {A B : Type 0} (gives : List File → Before → Result ReleaseData CheckFault → Type 0) (rules : List Chosen) (old new : StoreView)
    (H : List ReleaseData) (f : A → List ReleaseData) (g : B → List ReleaseData) (a : A) (b : B)
    → InstallsBy gives rules old new H f (Ok a) → g b ≡ f a → InstallsBy gives rules old new H g (Ok b)
seen_as gives rules old new H f g a b p e = record {
  later = p.later;
  told = some_map old.files (λ files t. (t.0, t.1, t.2, e ∙ t.3)) p.told;
  policy = λ k h. absurd (cc h);
  failed = λ h. absurd (cc h);
  memory = λ h. cc h;
}

-- an error of one result as that of another
err_as : {A B : Type 0} (e x : InstallFault) → IsErrOf {T = A} (Err e) x → IsErrOf {T = B} (Err e) x
err_as e x h = let same : e ≡ x = cc in ap Err same

-- the same refusal
pub refused_as : {A B : Type 0} (gives : List File → Before → Result ReleaseData CheckFault → Type 0) (rules : List Chosen) (old new : StoreView)
    (H : List ReleaseData) (f : A → List ReleaseData) (g : B → List ReleaseData) (e : InstallFault)
    → InstallsBy {A = A} gives rules old new H f (Err e) → InstallsBy {A = B} gives rules old new H g (Err e)
refused_as {A = A} {B = B} gives rules old new H f g e p = record {
  later = p.later;
  told = some_map old.files (λ files t. t) p.told;
  policy = λ k h. p.policy k (err_as {A = B} {B = A} e (fault.Policy k) h);
  failed = λ h. p.failed (err_as {A = B} {B = A} e (fault.Check check.ReadFault) h);
  memory = λ h. p.memory (err_as {A = B} {B = A} e (fault.Check check.NoMemory) h);
}

-- ---- histories of published catalogues

pub history_more : (list : List (Catalogue (List ℕ))) (c : Catalogue (List ℕ)) → history_of (list ++ c ∷ []) ≡ history_of list ++ held c ∷ []
history_more list c = map-append held list (c ∷ [])

pub published_stands : (list : List (Catalogue (List ℕ))) (c : Catalogue (List ℕ)) → Stands c (history_of list ++ held c ∷ [])
    → Stands c (history_of (list ++ c ∷ []))
published_stands list c s = subst (Stands c) (sym (history_more list c)) s

pub grows : (rules : List Chosen) (c : Catalogue (List ℕ)) (H now : List ReleaseData) → Stands c (H ++ held c ∷ []) → refusal rules H (held c) ≡ None
    → now ≡ H ++ held c ∷ [] → GrowsBy rules H now
grows rules c H now s allowed e =
    let is = s.history H (held c) [] refl in
    record { release = held c; now_is = e; sound = is.is_sound; fits = is.fits; allowed = allowed }
