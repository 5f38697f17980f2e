-- What a release changes, for subscribers and for what is prepared beside them.
use Rattle.std.proofs.Common.{◌≡◌, ℕ, List, [], ◌∷◌, ◌++◌, length, map, Option, None, Some, refl, sym, ap, ◌∙◌}
use Rattle.admission.specs.Differences.{difference}
use Rattle.admission.specs.declared.delta.Delta.{Delta}
use Rattle.catalogue.specs.Releases.{ReleaseData}
use Rattle.subscribers.specs.Hearing.{all_hear}
use Rattle.subscribers.specs.Views.{PreparedView, committed, given_up, prepared, subscribers_of}
use Rattle.subscribers.proofs.lemmas.Hearing.{commits_news}
use Rattle.subscribers.proofs.lemmas.Preparing.{given_up_stay}
use Rattle.installer.specs.Views.{IsMadeOut}

none_before : {A B : Type 0} (f : A → B) (xs : List A) → map f xs ≡ [] → xs ≡ []
none_before f [] e = refl
none_before f (x ∷ xs) e = absurd (cc e)

-- it was made out for these exactly where it was for what is seen of them
pub made_out_of_seen : {A B : Type 0} (f : A → B) (xs : List A) (delta : Option Delta) (H : List ReleaseData) (r : ReleaseData)
    → IsMadeOut (map f xs) delta H r → IsMadeOut xs delta H r
made_out_of_seen f xs None H r made = none_before f xs made
made_out_of_seen f xs (Some delta) H r made = made

pub made_out_seen : {A B : Type 0} (f : A → B) (xs : List A) (delta : Option Delta) (H : List ReleaseData) (r : ReleaseData)
    → IsMadeOut xs delta H r → IsMadeOut (map f xs) delta H r
made_out_seen f xs None H r made = ap (map f) made
made_out_seen f xs (Some delta) H r made = made

-- ---- what is prepared for a release, and then held or dropped

pub all_heard : (H now : List ReleaseData) (r : ReleaseData) (place : ℕ) (all ready held : List PreparedView) → ready ≡ map (prepared place (difference H r)) all
    → held ≡ map committed ready → place ≡ length (H ++ r ∷ []) → now ≡ H ++ r ∷ [] → subscribers_of held ≡ all_hear now (subscribers_of all)
all_heard H now r place all ready held is_ready is_held at grown =
    ap subscribers_of is_held ∙ ap (λ ps. subscribers_of (map committed ps)) is_ready ∙ commits_news H r place all at
    ∙ ap (λ G. all_hear G (subscribers_of all)) (sym grown)

pub none_heard : (H : List ReleaseData) (r : ReleaseData) (place : ℕ) (all ready dropped : List PreparedView) → ready ≡ map (prepared place (difference H r)) all
    → dropped ≡ map given_up ready → subscribers_of dropped ≡ subscribers_of all
none_heard H r place all ready dropped is_ready is_dropped =
    ap subscribers_of is_dropped ∙ ap (λ ps. subscribers_of (map given_up ps)) is_ready ∙ given_up_stay place (difference H r) all
