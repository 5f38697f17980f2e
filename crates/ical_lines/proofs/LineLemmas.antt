-- The lines of a text, one by one.
use Rattle.std.proofs.Common.{◌≡◌, ◌<◌, ◌≤◌, ℕ, suc, ◌+◌, ◌-◌, Bool, true, false, cond, List, [], ◌∷◌, ◌++◌, length, take, drop, map, Option, Some, None, Ok}
use Rattle.std.proofs.Common.{Err, IsErr, refl, sym, ap, ◌∙◌, arith}
use Rattle.std.specs.List.{onto_first}
use Rattle.std.proofs.lemmas.List.{nil_from_length, take-append-drop, length-append}
use Rattle.ical_lines.specs.declared.line_fault.BadLine.TheVariants as bad
use Rattle.ical_lines.specs.Unfolding.{is_feed, cut_lines, is_whole, content, first_bad, joined, read_as, unfolded}
use Rattle.ical_lines.specs.LineLengths.{line_len, joined_with}

first_by : (t : Bool) (b : ℕ) (bs : List ℕ) → (0 < length bs → cut_lines bs ≡ take (line_len bs) bs ∷ cut_lines (drop (line_len bs) bs))
    → cond t ((b ∷ []) ∷ cut_lines bs) (onto_first b (cut_lines bs))
    ≡ take (cond t 1 (suc (line_len bs))) (b ∷ bs) ∷ cut_lines (drop (cond t 1 (suc (line_len bs))) (b ∷ bs))
unfolding cut_lines
first_by true b bs e = refl
first_by false b [] e = refl
first_by false b (c ∷ cs) e = rw (e (omega arith)) refl

cut_lines-first : (text : List ℕ) → 0 < length text → cut_lines text ≡ take (line_len text) text ∷ cut_lines (drop (line_len text) text)
unfolding cut_lines
cut_lines-first [] h = absurd (omega arith)
cut_lines-first (b ∷ bs) h = first_by (is_feed b) b bs (cut_lines-first bs)

-- ---- at a line of a text
module _ (text left first rest : List ℕ) (more : 0 < length left)
    (first_is : first ≡ take (line_len left) left) (rest_is : rest ≡ drop (line_len left) left) where
  cut : cut_lines left ≡ first ∷ cut_lines rest
  cut = cut_lines-first left more ∙ ap (λ l. l ∷ cut_lines (drop (line_len left) left)) (sym first_is) ∙ ap (λ l. first ∷ cut_lines l) (sym rest_is)

  pub next_contents : content first ∷ map content (cut_lines rest) ≡ map content (cut_lines left)
  next_contents = ap (map content) (sym cut)

  module _ (places : first_bad (length text - length left) (cut_lines left) ≡ first_bad 0 (cut_lines text)) where
    -- without its end
    pub refused_at : is_whole first ≡ false → Some (length text - length left) ≡ first_bad 0 (cut_lines text)
    unfolding first_bad
    refused_at e =
        let at = length text - length left in
        ap (λ t. cond t (first_bad (at + length first) (cut_lines rest)) (Some at)) (sym e) ∙ sym (ap (first_bad at) cut) ∙ places

    -- past a line
    pub next_place : length left ≤ length text → is_whole first ≡ true
        → first_bad (length text - length rest) (cut_lines rest) ≡ first_bad 0 (cut_lines text)
    unfolding first_bad
    next_place inside e =
        let at = length text - length left in
        let parts : length left ≡ length first + length rest =
        ap length (sym (take-append-drop (line_len left) left)) ∙ length-append (take (line_len left) left) (drop (line_len left) left)
        ∙ ap (λ l. length l + length (drop (line_len left) left)) (sym first_is)
        ∙ ap (λ l. length first + length l) (sym rest_is) in
        let next : length text - length rest ≡ at + length first = omega arith in
        ap (λ p. first_bad p (cut_lines rest)) next
        ∙ sym (ap (λ t. cond t (first_bad (at + length first) (cut_lines rest)) (Some at)) e)
        ∙ sym (ap (first_bad at) cut) ∙ places

-- ---- at its end
pub none_refused : (text left : List ℕ) (at : ℕ) → length left ≡ 0 → first_bad at (cut_lines left) ≡ first_bad 0 (cut_lines text)
    → None ≡ first_bad 0 (cut_lines text)
unfolding first_bad cut_lines
none_refused text left at end places =
    sym (ap (λ l. first_bad at (cut_lines l)) (nil_from_length left end)) ∙ places

pub all_joined : (text left : List ℕ) (lines : List (List ℕ)) (begun : Option (List ℕ)) → length left ≡ 0
    → lines ++ joined_with begun (map content (cut_lines left)) ≡ joined (map content (cut_lines text))
    → lines ++ joined_with begun [] ≡ joined (map content (cut_lines text))
unfolding cut_lines
all_joined text left lines begun end read =
    sym (ap (λ l. lines ++ joined_with begun (map content (cut_lines l))) (nil_from_length left end)) ∙ read

-- ---- what is read of a text
pub refused : (text : List ℕ) (place : ℕ) → Some place ≡ first_bad 0 (cut_lines text) → unfolded text ≡ Err (bad.BadLine place)
unfolding unfolded
refused text place e = ap (λ p. read_as p (joined (map content (cut_lines text)))) (sym e)

pub lines_read : (text : List ℕ) (lines : List (List ℕ)) → None ≡ first_bad 0 (cut_lines text) → lines ≡ joined (map content (cut_lines text))
    → unfolded text ≡ Ok lines
unfolding unfolded
lines_read text lines e is = ap (λ p. read_as p (joined (map content (cut_lines text)))) (sym e) ∙ ap Ok (sym is)

pub no_fault : (text : List ℕ) → None ≡ first_bad 0 (cut_lines text) → IsErr (unfolded text) → ⊥
no_fault text e h = let fine = lines_read text (joined (map content (cut_lines text))) e refl in cc
