-- Lines that were written, read back.
use Rattle.std.proofs.Common.{◌≡◌, ℕ, ◌+◌, ◌-◌, ◌==◌, Bool, true, false, not, ◌&&◌, cond, List, [], ◌∷◌, ◌++◌, length, map, Option, Some, None, Ok, refl}
use Rattle.std.proofs.Common.{sym, subst, ◌≢◌, ◌≤◌}
use Rattle.std.proofs.Common.{ap, ◌∙◌, append_assoc, arith}
use Rattle.std.specs.List.{AllByRecursion, list_all, flat_map, onto_first}
use Rattle.std.specs.Str.{bytes_eq}
use Rattle.std.proofs.lemmas.Bool.{cond_both, eqb-false}
use Rattle.std.proofs.lemmas.List.{append-nil, map-append, take_at, drop_at, length-append}
use Rattle.std.proofs.lemmas.List.Folds.{list_all-append}
use Rattle.ical_lines.specs.Lines.{most_octets, folded, content_line, lines_written}
use Rattle.ical_lines.specs.Unfolding.{is_feed, cut_lines, is_whole, content, first_bad, is_fold_blank, begins_blank, joined_on, joined, read_as, unfolded}
use Rattle.ical_lines.specs.Unfolding.{is_plain}
use Rattle.ical_lines.specs.LineLengths.{joined_with}

both : (s t : Bool) → (s && t) ≡ true → (s ≡ true) × (t ≡ true)
both true t e = (refl, e)
both false t e = cc

not_true : (t : Bool) → not t ≡ true → t ≡ false
not_true true e = cc
not_true false e = refl

abbrev no_feed : List ℕ → Type 0
no_feed text = list_all (λ b. not (is_feed b)) text ≡ true

-- a line with its end
abbrev ended : List ℕ → List ℕ
ended line = line ++ 13 ∷ 10 ∷ []

-- ---- the lines that a folded line takes, of which the first begins with this text
lines_of : ℕ → List ℕ → List ℕ → List (List ℕ)
lines_of room prefix [] = prefix ∷ []
lines_of room prefix (b ∷ bs) =
    cond (room == 0) (prefix ∷ lines_of (most_octets - 2) (32 ∷ b ∷ []) bs) (lines_of (room - 1) (prefix ++ b ∷ []) bs)

cut_by : (t : Bool) (b : ℕ) (ls : List (List ℕ)) (xs : List (List ℕ)) → t ≡ false → cond t xs (onto_first b ls) ≡ onto_first b ls
cut_by true b ls xs e = cc
cut_by false b ls xs e = refl

cut_line : (prefix more : List ℕ) → no_feed prefix → cut_lines (prefix ++ 13 ∷ 10 ∷ more) ≡ ended prefix ∷ cut_lines more
unfolding cut_lines
cut_line [] more h = refl
cut_line (b ∷ bs) more h =
    let p = both (not (is_feed b)) (list_all (λ x. not (is_feed x)) bs) h in
    cut_by (is_feed b) b (cut_lines (bs ++ 13 ∷ 10 ∷ more)) _ (not_true (is_feed b) p.0) ∙ ap (onto_first b) (cut_line bs more p.1)

module _ (b : ℕ) (bs more : List ℕ) where
  Cuts : Type 0
  Cuts = (room : ℕ) (prefix : List ℕ) → no_feed prefix
      → cut_lines (prefix ++ (folded room bs ++ 13 ∷ 10 ∷ more)) ≡ map ended (lines_of room prefix bs) ++ cut_lines more

  cuts_by : (t : Bool) (room : ℕ) (prefix : List ℕ) → no_feed prefix → is_feed b ≡ false → Cuts
      → cut_lines (prefix ++ (cond t (13 ∷ 10 ∷ 32 ∷ b ∷ folded (most_octets - 2) bs) (b ∷ folded (room - 1) bs) ++ 13 ∷ 10 ∷ more))
      ≡ map ended (cond t (prefix ∷ lines_of (most_octets - 2) (32 ∷ b ∷ []) bs) (lines_of (room - 1) (prefix ++ b ∷ []) bs)) ++ cut_lines more
  unfolding Cuts
  cuts_by true room prefix h e next =
      cut_line prefix (32 ∷ b ∷ (folded (most_octets - 2) bs ++ 13 ∷ 10 ∷ more)) h
      ∙ ap (λ ls. ended prefix ∷ ls) (next (most_octets - 2) (32 ∷ b ∷ []) (rw e refl))
  cuts_by false room prefix h e next =
      ap cut_lines (sym (append_assoc prefix (b ∷ []) (folded (room - 1) bs ++ 13 ∷ 10 ∷ more)))
      ∙ next (room - 1) (prefix ++ b ∷ []) (list_all-append (λ x. not (is_feed x)) prefix (b ∷ []) ∙ rw (h, e) refl)

cuts : (bs more : List ℕ) → no_feed bs → (room : ℕ) (prefix : List ℕ) → no_feed prefix
    → cut_lines (prefix ++ (folded room bs ++ 13 ∷ 10 ∷ more)) ≡ map ended (lines_of room prefix bs) ++ cut_lines more
unfolding folded lines_of Cuts
cuts [] more k room prefix h = cut_line prefix more h
cuts (b ∷ bs) more k room prefix h =
    let p = both (not (is_feed b)) (list_all (λ x. not (is_feed x)) bs) k in
    cuts_by b bs more (room == 0) room prefix h (not_true (is_feed b) p.0) (cuts bs more p.1)

-- ---- each of them has its end
is_whole-ended : (line : List ℕ) → is_whole (ended line) ≡ true
unfolding is_whole
is_whole-ended line =
    let len = length-append line (13 ∷ 10 ∷ []) in
    ap (λ l. bytes_eq l (13 ∷ 10 ∷ [])) (drop_at line (13 ∷ 10 ∷ []) (length (ended line) - 2) (omega arith))

content-ended : (line : List ℕ) → content (ended line) ≡ line
content-ended line =
    let len = length-append line (13 ∷ 10 ∷ []) in
    take_at line (13 ∷ 10 ∷ []) (length (ended line) - 2) (omega arith)

contents-ended : (lines : List (List ℕ)) → map content (map ended lines) ≡ lines
contents-ended [] = refl
contents-ended (line ∷ lines) = ap (λ l. l ∷ map content (map ended lines)) (content-ended line) ∙ ap (λ ls. line ∷ ls) (contents-ended lines)

none_bad : (lines : List (List ℕ)) (at : ℕ) → first_bad at (map ended lines) ≡ None
unfolding first_bad
none_bad [] at = refl
none_bad (line ∷ lines) at = rw (is_whole-ended line) (none_bad lines (at + length (ended line)))

-- ---- joined, they are the line
goes_on_by : (t : Bool) (room : ℕ) (f line : List ℕ) (b : ℕ) (bs : List ℕ) (rest : List (List ℕ))
    → ((r : ℕ) (g l : List ℕ) → joined_on l (lines_of r (32 ∷ g) bs ++ rest) ≡ joined_on (l ++ (g ++ bs)) rest)
    → joined_on line (cond t ((32 ∷ f) ∷ lines_of (most_octets - 2) (32 ∷ b ∷ []) bs) (lines_of (room - 1) ((32 ∷ f) ++ b ∷ []) bs) ++ rest)
    ≡ joined_on (line ++ (f ++ b ∷ bs)) rest
unfolding joined_on
goes_on_by true room f line b bs rest next =
    next (most_octets - 2) (b ∷ []) (line ++ f) ∙ ap (λ l. joined_on l rest) (append_assoc line f (b ∷ bs))
goes_on_by false room f line b bs rest next =
    next (room - 1) (f ++ b ∷ []) line ∙ ap (λ l. joined_on (line ++ l) rest) (append_assoc f (b ∷ []) bs)

goes_on : (bs : List ℕ) (rest : List (List ℕ)) (room : ℕ) (f line : List ℕ)
    → joined_on line (lines_of room (32 ∷ f) bs ++ rest) ≡ joined_on (line ++ (f ++ bs)) rest
unfolding joined_on lines_of
goes_on [] rest room f line = ap (λ l. joined_on (line ++ l) rest) (sym (append-nil f))
goes_on (b ∷ bs) rest room f line = goes_on_by (room == 0) room f line b bs rest (λ r g l. goes_on bs rest r g l)

-- the line that was begun, if there is one
abbrev before : Option (List ℕ) → List (List ℕ)
before None = []
before (Some line) = line ∷ []

begins_by : (t : Bool) (begun : Option (List ℕ)) (line : List ℕ) (rest : List (List ℕ)) → begins_blank line ≡ false
    → joined_with begun (line ∷ rest) ≡ before begun ++ joined_on line rest
unfolding joined_on
begins_by t None line rest e = refl
begins_by t (Some begun) line rest e = rw e refl

stands_by : (t : Bool) (room c : ℕ) (f : List ℕ) (b : ℕ) (bs : List ℕ) (rest : List (List ℕ)) (begun : Option (List ℕ)) → is_fold_blank c ≡ false
    → ((r : ℕ) (g : List ℕ) → joined_with begun (lines_of r (c ∷ g) bs ++ rest) ≡ before begun ++ joined_on ((c ∷ g) ++ bs) rest)
    → joined_with begun (cond t ((c ∷ f) ∷ lines_of (most_octets - 2) (32 ∷ b ∷ []) bs) (lines_of (room - 1) ((c ∷ f) ++ b ∷ []) bs) ++ rest)
    ≡ before begun ++ joined_on ((c ∷ f) ++ b ∷ bs) rest
stands_by true room c f b bs rest begun e next =
    begins_by true begun (c ∷ f) (lines_of (most_octets - 2) (32 ∷ b ∷ []) bs ++ rest) e
    ∙ ap (λ ls. before begun ++ ls) (goes_on bs rest (most_octets - 2) (b ∷ []) (c ∷ f))
stands_by false room c f b bs rest begun e next =
    next (room - 1) (f ++ b ∷ []) ∙ ap (λ l. before begun ++ joined_on (c ∷ l) rest) (append_assoc f (b ∷ []) bs)

stands : (c : ℕ) (bs : List ℕ) (rest : List (List ℕ)) (begun : Option (List ℕ)) → is_fold_blank c ≡ false → (room : ℕ) (f : List ℕ)
    → joined_with begun (lines_of room (c ∷ f) bs ++ rest) ≡ before begun ++ joined_on ((c ∷ f) ++ bs) rest
unfolding lines_of
stands c [] rest begun e room f =
    begins_by true begun (c ∷ f) rest e ∙ ap (λ l. before begun ++ joined_on (c ∷ l) rest) (sym (append-nil f))
stands c (b ∷ bs) rest begun e room f = stands_by (room == 0) room c f b bs rest begun e (λ r g. stands c bs rest begun e r g)

one_line : (line : List ℕ) (rest : List (List ℕ)) (begun : Option (List ℕ)) → begins_blank line ≡ false
    → joined_with begun (lines_of most_octets [] line ++ rest) ≡ before begun ++ joined_on line rest
unfolding lines_of
one_line [] rest begun e = begins_by true begun [] rest e
one_line (b ∷ bs) rest begun e = stands b bs rest begun e (most_octets - 1) []

-- ---- all lines
all_lines : List (List ℕ) → List (List ℕ)
all_lines lines = flat_map (lines_of most_octets []) lines

joined_all : (lines : List (List ℕ)) (begun : Option (List ℕ)) → list_all is_plain lines ≡ true → joined_with begun (all_lines lines) ≡ before begun ++ lines
unfolding all_lines joined_on
joined_all [] None h = refl
joined_all [] (Some begun) h = refl
joined_all (line ∷ lines) begun h =
    let p = both (is_plain line) (list_all is_plain lines) h in
    let q = both (list_all (λ b. not (is_feed b)) line) (not (begins_blank line)) p.0 in
    one_line line (all_lines lines) begun (not_true (begins_blank line) q.1)
    ∙ ap (λ ls. before begun ++ ls) (joined_all lines (Some line) p.1)

cut_all : (lines : List (List ℕ)) → list_all is_plain lines ≡ true → cut_lines (lines_written lines) ≡ map ended (all_lines lines)
unfolding all_lines cut_lines content_line
cut_all [] h = refl
cut_all (line ∷ lines) h =
    let p = both (is_plain line) (list_all is_plain lines) h in
    let q = both (list_all (λ b. not (is_feed b)) line) (not (begins_blank line)) p.0 in
    ap cut_lines (append_assoc (folded most_octets line) (13 ∷ 10 ∷ []) (lines_written lines))
    ∙ cuts line (lines_written lines) q.0 most_octets [] refl
    ∙ ap (λ ls. map ended (lines_of most_octets [] line) ++ ls) (cut_all lines p.1)
    ∙ sym (map-append ended (lines_of most_octets [] line) (all_lines lines))

pub reads_back : (lines : List (List ℕ)) → list_all is_plain lines ≡ true → unfolded (lines_written lines) ≡ Ok lines
unfolding unfolded
reads_back lines h =
    let cut = cut_all lines h in
    ap (λ ls. read_as (first_bad 0 ls) (joined (map content ls))) cut
    ∙ ap (λ p. read_as p (joined (map content (map ended (all_lines lines))))) (none_bad (all_lines lines) 0)
    ∙ ap (λ ls. Ok (joined ls)) (contents-ended (all_lines lines))
    ∙ ap Ok (joined_all lines None h)

-- ---- none of them is too long
abbrev Fit : List (List ℕ) → Type 0
Fit lines = AllByRecursion (λ line. length line ≤ 77) lines

fit-append : (xs ys : List (List ℕ)) → Fit xs → Fit ys → Fit (xs ++ ys)
fit-append [] ys h k = k
fit-append (x ∷ xs) ys h k = (h.0, fit-append xs ys h.1 k)

ended_fits : (line : List ℕ) → length line ≤ most_octets → length (ended line) ≤ 77
ended_fits line h = omega (arith, length-append line (13 ∷ 10 ∷ []))

line_fits : (bs : List ℕ) (room : ℕ) (prefix : List ℕ) → length prefix + room ≤ most_octets → Fit (map ended (lines_of room prefix bs))
unfolding lines_of
line_fits [] room prefix h = (ended_fits prefix (omega arith), tt)
line_fits (b ∷ bs) room prefix h =
    cond_both (room == 0) (prefix ∷ lines_of (most_octets - 2) (32 ∷ b ∷ []) bs) (lines_of (room - 1) (prefix ++ b ∷ []) bs) (λ ls. Fit (map ended ls))
    (λ full. (ended_fits prefix (omega arith), line_fits bs (most_octets - 2) (32 ∷ b ∷ []) (omega arith)))
    (λ more. let some : room ≢ 0 = eqb-false room 0 more in
    line_fits bs (room - 1) (prefix ++ b ∷ []) (omega (arith, length-append prefix (b ∷ []), some)))

all_fit : (lines : List (List ℕ)) → Fit (map ended (all_lines lines))
unfolding all_lines
all_fit [] = tt
all_fit (line ∷ lines) =
    subst Fit (sym (map-append ended (lines_of most_octets [] line) (all_lines lines)))
    (fit-append (map ended (lines_of most_octets [] line)) (map ended (all_lines lines)) (line_fits line most_octets [] (omega arith)) (all_fit lines))

pub lines_fit : (lines : List (List ℕ)) → list_all is_plain lines ≡ true → Fit (cut_lines (lines_written lines))
lines_fit lines h = subst Fit (sym (cut_all lines h)) (all_fit lines)
