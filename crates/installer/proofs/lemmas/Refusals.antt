-- What rules say of a release that is to follow a history.
use Rattle.std.proofs.Common.{◌≡◌, ℕ, List, [], ◌∷◌, None, Some, refl, sym, ◌∙◌}
use Rattle.admission.specs.Differences.{difference}
use Rattle.admission.specs.Rules.{first_refusing}
use Rattle.admission.specs.declared.delta.Delta.{Delta}
use Rattle.admission.specs.declared.rules.Chosen.{Chosen}
use Rattle.catalogue.specs.Histories.{last_release}
use Rattle.catalogue.specs.Releases.{ReleaseData}
use Rattle.installer.specs.Installing.{IsRefusedAt, refusal}

-- ---- no rules

no_first : (delta : Delta) → first_refusing [] delta ≡ None
unfolding first_refusing
no_first delta = refl

pub none_refuses : (H : List ReleaseData) (r : ReleaseData) → refusal [] H r ≡ None
none_refuses [] r = refl
none_refuses (h ∷ H) r = no_first (difference (h ∷ H) r)

pub no_refusal : (H : List ReleaseData) (k : ℕ) → IsRefusedAt [] H k → ⊥
no_refusal H k at = let e : None ≡ Some k = sym (none_refuses H at.release) ∙ at.refused in absurd (cc e)

-- ---- the first release

pub first_allowed : (rules : List Chosen) (k : ℕ) → IsRefusedAt rules [] k → ⊥
first_allowed rules k at = absurd (cc at.refused)

-- ---- a later one

pub refusal_is : (rules : List Chosen) (H : List ReleaseData) (r last : ReleaseData) → last_release H ≡ Some last
    → refusal rules H r ≡ first_refusing rules (difference H r)
refusal_is rules [] r last e = absurd (cc e)
refusal_is rules (h ∷ H) r last e = refl
