-- Which kinds of rules have a test.
use Rattle.std.proofs.Common.{◌≡◌, ℕ, suc, ◌+◌, ◌<◌, List, [], ◌∷◌, map, drop, length, get_or, Bool, true, false, refl, sym, ap, ◌∙◌, ◌&&◌, ◌||◌}
use Rattle.std.proofs.Common.{add-one, drop-cons}
use Rattle.std.specs.List.{list_all, list_any}
use Rattle.admission.specs.Rules.{KeepsAll, is_kept}
use Rattle.admission.specs.declared.rules.Chosen.{Chosen}
use Rattle.admission.specs.declared.rules.RuleKind.{RuleKind}
use Rattle.admission.specs.declared.rules.RuleKind.TheVariants as kind

-- where all kinds have one, the kinds of any rules do
pub all_kept : (kinds : List RuleKind) (chosen : List Chosen) → KeepsAll kinds → list_all (λ rule. is_kept kinds rule.kind) chosen ≡ true
all_kept kinds [] keeps = refl
all_kept kinds (rule ∷ chosen) keeps =
    ap (λ b. b && list_all (λ r. is_kept kinds r.kind) chosen) (keeps rule.kind) ∙ all_kept kinds chosen keeps

-- a test of each kind
pub both_kept : (a b : RuleKind) → a ≡ kind.MaxChanged → b ≡ kind.NoPastChange → KeepsAll (a ∷ b ∷ [])
both_kept a b is_a is_b = rw (is_a, is_b) each
  where
    each : KeepsAll (kind.MaxChanged ∷ kind.NoPastChange ∷ [])
    each kind.MaxChanged = refl
    each kind.NoPastChange = refl

-- a kind that this test has not is one of the others'
pub kind_later : {K R : Type 0} (kind : K → R) (p : R → Bool) (kept : List K) (i : ℕ) (k : K) → i < length kept → k ≡ get_or kept i k → p (kind k) ≡ false
    → list_any p (map kind (drop i kept)) ≡ true → list_any p (map kind (drop (i + 1) kept)) ≡ true
kind_later kind p kept i k lt is other there =
    let one : drop i kept ≡ k ∷ drop (i + 1) kept = rw add-one (drop-cons kept i k lt ∙ ap (λ z. z ∷ drop (suc i) kept) (sym is)) in
    ap (λ b. b || list_any p (map kind (drop (i + 1) kept))) (sym other) ∙ ap (λ xs. list_any p (map kind xs)) (sym one) ∙ there
