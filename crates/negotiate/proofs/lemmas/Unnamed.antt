-- A last format that no element names changes no choice.
use Rattle.std.proofs.Common.{◌≡◌, ℕ, max, ◌==◌, true, false, cond, List, [], ◌∷◌, ◌++◌, Option, None, Some, option_map, refl, ap, ◌∙◌, arith}
use Rattle.std.specs.Prelude.{IfSome, find}
use Rattle.std.proofs.lemmas.Bool.{cond-false}
use Rattle.std.proofs.lemmas.Bool.Decides.{nat_tests}
use Rattle.negotiate.specs.Choices.{NamedFormat, IsUnnamed, quality_of, format_quality, largest_quality, best_format, formats, chosen_among, chosen_format}
use Rattle.negotiate.specs.Choices.{calendar_format, file_format, json_format}

unnamed_zero : (field : List ℕ) (f : NamedFormat) → IsUnnamed field f → format_quality field f ≡ 0
unfolding quality_of
unnamed_zero field f h = rw (h.exact, h.group, h.any) refl

largest_same : (field : List ℕ) (fs : List NamedFormat) (f : NamedFormat) → format_quality field f ≡ 0
    → largest_quality field (fs ++ f ∷ []) ≡ largest_quality field fs
largest_same field [] f zero = ap (λ n. max n 0) zero
largest_same field (x ∷ xs) f zero = ap (max (format_quality field x)) (largest_same field xs f zero)

another : (n : ℕ) → (n == 0) ≡ false → (0 == n) ≡ false
another n h = grind (arith, nat_tests)

found_same : (field : List ℕ) (fs : List NamedFormat) (f : NamedFormat) (n : ℕ) → format_quality field f ≡ 0 → (n == 0) ≡ false
    → find (λ g. format_quality field g == n) (fs ++ f ∷ []) ≡ find (λ g. format_quality field g == n) fs
found_same field [] f n zero some =
    cond-false (format_quality field f == n) (Some f) None (ap (λ q. q == n) zero ∙ another n some)
found_same field (x ∷ xs) f n zero some =
    ap (cond (format_quality field x == n) (Some x)) (found_same field xs f n zero some)

last_unnamed : (field : List ℕ) (fs : List NamedFormat) (f : NamedFormat) → IsUnnamed field f → best_format field (fs ++ f ∷ []) ≡ best_format field fs
last_unnamed field fs f h =
    let zero = unnamed_zero field f h in
    let largest = largest_quality field fs in
    ap (λ n. cond (n == 0) None (option_map (λ (g : NamedFormat). g.format) (find (λ g. format_quality field g == n) (fs ++ f ∷ []))))
    (largest_same field fs f zero)
    ∙ elim (largest == 0) as (λ b. (largest == 0) ≡ b
    → cond b None (option_map (λ (g : NamedFormat). g.format) (find (λ g. format_quality field g == largest) (fs ++ f ∷ [])))
    ≡ cond b None (option_map (λ (g : NamedFormat). g.format) (find (λ g. format_quality field g == largest) fs))) [
      | true ↦ λ none. refl
      | false ↦ λ some. ap (option_map (λ (g : NamedFormat). g.format)) (found_same field fs f largest zero some)
    ] refl

pub json_unnamed : (accept : Option (List ℕ)) → IfSome accept (λ field. IsUnnamed field json_format)
    → chosen_format accept ≡ chosen_among (calendar_format ∷ file_format ∷ []) accept
unfolding chosen_format
json_unnamed None h = refl
json_unnamed (Some field) h = last_unnamed field (calendar_format ∷ file_format ∷ []) json_format h

-- what is chosen is chosen among all
pub all_offered : (accept : Option (List ℕ)) → chosen_format accept ≡ chosen_among formats accept
unfolding chosen_format
all_offered accept = refl
