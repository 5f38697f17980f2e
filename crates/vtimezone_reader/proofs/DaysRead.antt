-- Numbers in a row, as far as they were read.
use Rattle.std.proofs.Common.{◌≡◌, ℕ, ◌+◌, ◌==◌, false, refl, sym, ap, ◌∙◌, arith, ℤ, List, [], ◌∷◌, Option, None}
use Rattle.std.proofs.lemmas.Bool.{cond_both}
use Rattle.vtimezone_reader.specs.declared.rule_words.Days.{Days}
use Rattle.vtimezone_reader.specs.RuleWords.{number_in, is_next, days_after}

beyond : (places : ℕ) (first : ℤ) (n : ℕ) (ts : List (List ℕ)) → days_after places first (8 + n) ts ≡ None
unfolding days_after
beyond places first n [] =
    let one : (8 + n == 1) ≡ false = grind arith in
    let seven : (8 + n == 7) ≡ false = grind arith in
    rw (one, seven) refl
beyond places first n (t ∷ ts) =
    let next : 8 + n + 1 ≡ 8 + (n + 1) = omega arith in
    cond_both (is_next first (8 + n) (number_in places t)) (days_after places first (8 + n + 1) ts) None (λ o. o ≡ None)
    (λ _. ap (λ k. days_after places first k ts) next ∙ beyond places first (n + 1) ts) (λ _. refl)

-- after seven numbers there is room for none
pub full : (places : ℕ) (first : ℤ) (count : ℕ) (t : List ℕ) (ts left : List (List ℕ)) (whole : Option Days) → count ≡ 7 → left ≡ t ∷ ts
    → days_after places first count left ≡ whole → None ≡ whole
unfolding days_after
full places first count t ts left whole seven is read =
    let eight : 7 + 1 ≡ 8 + 0 = refl in
    let none : days_after places first 7 (t ∷ ts) ≡ None =
    cond_both (is_next first 7 (number_in places t)) (days_after places first 8 ts) None (λ o. o ≡ None) (λ _. beyond places first 0 ts) (λ _. refl) in
    sym none ∙ ap (days_after places first 7) (sym is) ∙ ap (λ k. days_after places first k left) (sym seven) ∙ read
