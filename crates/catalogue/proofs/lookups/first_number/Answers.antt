use Rattle.std.proofs.Common.{rules, ◌≡◌, ℕ, List, ◌∷◌, ◌++◌, ◌<◌, ◌^◌, Some, take, decimal, nat_eq, refl, sym, ap, ◌∙◌, arith}
use Rattle.std.specs.List.{position_or_len}
use Rattle.std.proofs.lemmas.Fmt.{decimal_injective}
use Rattle.catalogue.proofs.lemmas.Tokens.{number_before}
use Rattle.catalogue.proofs.lookups.first_number.Goals as goal

-- what stands before the first dash
prefix : (dash : ℕ) (text rest : List ℕ) (n : ℕ) → dash ≡ position_or_len (nat_eq 45) text → text ≡ decimal n ++ 45 ∷ rest → n < 2 ^ 32
    → take dash text ≡ decimal n
prefix dash text rest n at e small =
    ap (λ k. take k text) at ∙ ap (λ t. take (position_or_len (nat_eq 45) t) t) e ∙ number_before n rest (omega arith)

pub returns-in_err-number : goal.returns-in_err-number
returns-in_err-number c = λ n rest small e.
    absurd (c.in_err-number.ensures.none refl n (omega arith) (prefix c.dash_at.result c.args.text.now rest n c.dash_at.ensures e small))

pub returns-then-number : goal.returns-then-number
returns-then-number c = λ n rest small e.
    let text = sym c.in_ok-number.ensures.some ∙ prefix c.dash_at.result c.args.text.now rest n c.dash_at.ensures e small in
    ap Some (decimal_injective c.in_ok-number.number n (omega (arith, c.if-number.true)) (omega arith) text)

pub returns-else-number : goal.returns-else-number
returns-else-number c = λ n rest small e.
    let text = sym c.in_ok-number.ensures.some ∙ prefix c.dash_at.result c.args.text.now rest n c.dash_at.ensures e small in
    let fits : c.in_ok-number.number < 2 ^ 64 = search rules in
    let same = decimal_injective c.in_ok-number.number n fits (omega arith) text in
    absurd (omega (arith, same, c.if-number.false))
