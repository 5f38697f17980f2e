-- A line that is written in three pieces.
use Rattle.std.proofs.Common.{◌≡◌, ℕ, List, [], ◌∷◌, ◌++◌, sym, ap, ◌∙◌, append_assoc, append-nil}
use Rattle.ical_lines.specs.Lines.{folded, content_line}

pub three_pieces : (old a b new whole first stamp local more : List ℕ) (r s t : ℕ)
    → ((rest : List ℕ) → a ++ folded r rest ≡ old ++ folded 75 (first ++ rest))
    → ((rest : List ℕ) → b ++ folded s rest ≡ a ++ folded r (stamp ++ rest))
    → ((rest : List ℕ) → new ++ folded t rest ≡ b ++ folded s (more ++ rest))
    → stamp ≡ local → whole ≡ new ++ 13 ∷ 10 ∷ [] → whole ≡ old ++ content_line (first ++ (local ++ more))
unfolding content_line folded
three_pieces old a b new whole first stamp local more r s t one two three same ended =
    let line = first ++ (stamp ++ more) in
    let is : new ≡ old ++ folded 75 line =
    sym (append-nil new) ∙ three [] ∙ two (more ++ []) ∙ one (stamp ++ (more ++ []))
    ∙ ap (λ m. old ++ folded 75 (first ++ (stamp ++ m))) (append-nil more) in
    ended ∙ ap (λ n. n ++ 13 ∷ 10 ∷ []) is ∙ append_assoc old (folded 75 line) (13 ∷ 10 ∷ [])
    ∙ ap (λ l. old ++ (folded 75 (first ++ (l ++ more)) ++ 13 ∷ 10 ∷ [])) same
