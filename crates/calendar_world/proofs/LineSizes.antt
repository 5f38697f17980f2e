-- How long lines are when they are written: a line of n octets is folded with three more for each
-- 73.
use Rattle.std.proofs.Common.{◌≡◌, ℕ, zero, suc, ◌+◌, ◌-◌, ◌*◌, ◌≤◌, ◌==◌, false, List, [], ◌∷◌, ◌++◌, length, arith, length-append}
use Rattle.std.proofs.Math.Dec.{eqb-suc-zero}
use Rattle.ical_lines.specs.Lines.{content_line, folded, most_octets, lines_written}

folded_size : (room : ℕ) (bs : List ℕ) → room ≤ 75 → 73 * length (folded room bs) + 3 * room ≤ 76 * length bs + 225
unfolding folded
folded_size room [] h = omega (arith, h)
folded_size zero (b ∷ bs) h = let rest = folded_size 73 bs (omega arith) in omega (arith, rest)
folded_size (suc room) (b ∷ bs) h =
    let test : (suc room == 0) ≡ false = eqb-suc-zero room in
    let less : suc room - 1 ≡ room = omega arith in
    let rest = folded_size room bs (omega (arith, h)) in
    rw (test, less) (omega (arith, rest))

-- 73 times the length of the line, at the most
abbrev pub line_cost : List ℕ → ℕ
line_cost line = 76 * length line + 146

abbrev pub cost : List (List ℕ) → ℕ
cost [] = 0
cost (line ∷ lines) = line_cost line + cost lines

line_size : (line : List ℕ) → 73 * length (content_line line) ≤ line_cost line
unfolding content_line
line_size line =
    let size = folded_size most_octets line (omega arith) in
    omega (arith, size, length-append (folded most_octets line) (13 ∷ 10 ∷ []))

pub written_size : (lines : List (List ℕ)) → 73 * length (lines_written lines) ≤ cost lines
written_size [] = omega arith
written_size (line ∷ lines) =
    let one = line_size line in
    let rest = written_size lines in
    omega (arith, one, rest, length-append (content_line line) (lines_written lines))

pub cost_both : (xs ys : List (List ℕ)) → cost (xs ++ ys) ≡ cost xs + cost ys
cost_both [] ys = omega arith
cost_both (x ∷ xs) ys = let rest = cost_both xs ys in omega (arith, rest)
