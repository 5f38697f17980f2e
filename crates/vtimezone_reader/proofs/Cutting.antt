-- Texts, cut at separators.
use Rattle.std.proofs.Common.{◌≡◌, ℕ, suc, ◌<◌, ◌==◌, Bool, true, false, if◌then◌else◌, refl, sym, ap, subst, ◌∙◌, arith, List, [], ◌∷◌}
use Rattle.std.proofs.Common.{length, take, drop, Option, None, Some}
use Rattle.std.specs.List.{onto_first}
use Rattle.vtimezone.specs.Cutting.{cut_at}
use Rattle.vtimezone_reader.specs.Pieces.{pieces, before, after, length_before}

pub before_is : (s : ℕ) (text : List ℕ) → take (length_before s text) text ≡ before s text
before_is s [] = refl
before_is s (b ∷ bs) =
    elim (b == s) as (λ v. take (if v then 0 else suc (length_before s bs)) (b ∷ bs) ≡ (if v then [] else b ∷ before s bs))
    [ true ↦ refl | false ↦ ap (λ t. b ∷ t) (before_is s bs) ]

pub after_none : (s : ℕ) (text : List ℕ) → length (drop (length_before s text) text) ≡ 0 → after s text ≡ None
after_none s [] h = refl
after_none s (b ∷ bs) h = by_case (b == s) (after_none s bs) h
  where
    by_case : (v : Bool) → (length (drop (length_before s bs) bs) ≡ 0 → after s bs ≡ None)
        → length (drop (if v then 0 else suc (length_before s bs)) (b ∷ bs)) ≡ 0 → (if v then Some bs else after s bs) ≡ None
    by_case true on k = absurd (omega arith)
    by_case false on k = on k

pub after_some : (s : ℕ) (text : List ℕ) → 0 < length (drop (length_before s text) text) → after s text ≡ Some (drop 1 (drop (length_before s text) text))
after_some s [] h = absurd (omega arith)
after_some s (b ∷ bs) h = by_case (b == s) (after_some s bs) h
  where
    by_case : (v : Bool) → (0 < length (drop (length_before s bs) bs) → after s bs ≡ Some (drop 1 (drop (length_before s bs) bs)))
        → 0 < length (drop (if v then 0 else suc (length_before s bs)) (b ∷ bs))
        → (if v then Some bs else after s bs) ≡ Some (drop 1 (drop (if v then 0 else suc (length_before s bs)) (b ∷ bs)))
    by_case true on k = refl
    by_case false on k = on k

pub cut_is : (s : ℕ) (text : List ℕ) → cut_at s text ≡ before s text ∷ pieces s (after s text)
cut_is s [] = refl
cut_is s (b ∷ bs) =
    elim (b == s) as (λ v. (if v then ([] ∷ cut_at s bs) else onto_first b (cut_at s bs)) ≡ (if v then [] else b ∷ before s bs) ∷ pieces s
    (if v then Some bs else after s bs))
    [ true ↦ refl | false ↦ ap (onto_first b) (cut_is s bs) ]

pub record IsCut (s : ℕ) (text front : List ℕ) (next : Option (List ℕ)) : Type 0 where
  pub first : front ≡ before s text
  pub second : next ≡ after s text
  pub cut : cut_at s text ≡ front ∷ pieces s next

made_cut : (s : ℕ) (text front : List ℕ) (next : Option (List ℕ)) → front ≡ before s text → next ≡ after s text → IsCut s text front next
made_cut s text front next a b = record {
  first = a;
  second = b;
  cut = cut_is s text ∙ ap (λ t. t ∷ pieces s (after s text)) (sym a) ∙ ap (λ o. front ∷ pieces s o) (sym b);
}

pub cut_end : (s : ℕ) (text front rest : List ℕ) → front ≡ take (length_before s text) text → rest ≡ drop (length_before s text) text → length rest ≡ 0
    → IsCut s text front None
cut_end s text front rest a b e =
    made_cut s text front None (a ∙ before_is s text) (sym (after_none s text (ap length (sym b) ∙ e)))

pub cut_on : (s : ℕ) (text front rest next : List ℕ) → front ≡ take (length_before s text) text → rest ≡ drop (length_before s text) text → 0 < length rest
    → next ≡ drop 1 rest → IsCut s text front (Some next)
cut_on s text front rest next a b e n =
    let some : 0 < length (drop (length_before s text) text) = subst (λ (t : List ℕ). 0 < length t) b e in
    made_cut s text front (Some next) (a ∙ before_is s text) (ap Some (n ∙ ap (drop 1) b) ∙ sym (after_some s text some))
