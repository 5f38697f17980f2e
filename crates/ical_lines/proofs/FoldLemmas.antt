-- Folding a line part by part.
use Rattle.std.proofs.Common.{◌≡◌, ℕ, zero, suc, ◌+◌, ◌-◌, ◌<◌, ◌≤◌, ◌==◌, false, List, [], ◌∷◌, ◌++◌, length, take, drop, refl, sym, ap, ◌∙◌, append_assoc}
use Rattle.std.proofs.Common.{arith}
use Rattle.std.proofs.Math.Dec.{eqb-suc-zero}
use Rattle.std.proofs.Math.Nat.{sub-zero}
use Rattle.std.proofs.lemmas.List.{append-nil, length-append}
use Rattle.ical_lines.specs.Lines.{folded, content_line, most_octets}

-- three parts one after another are the whole
pub three_parts : (name value o0 o1 o2 o3 : List ℕ) (r1 r2 r3 : ℕ)
    → ((rest : List ℕ) → o1 ++ folded r1 rest ≡ o0 ++ folded most_octets (name ++ rest))
    → ((rest : List ℕ) → o2 ++ folded r2 rest ≡ o1 ++ folded r1 (58 ∷ rest))
    → ((rest : List ℕ) → o3 ++ folded r3 rest ≡ o2 ++ folded r2 (value ++ rest))
    → o3 ++ 13 ∷ 10 ∷ [] ≡ o0 ++ content_line (name ++ 58 ∷ value)
unfolding folded content_line
three_parts name value o0 o1 o2 o3 r1 r2 r3 e1 e2 e3 =
    let whole : o3 ≡ o0 ++ folded most_octets (name ++ 58 ∷ value) =
    sym (append-nil o3) ∙ e3 [] ∙ ap (λ l. o2 ++ folded r2 l) (append-nil value) ∙ e2 value ∙ e1 (58 ∷ value) in
    ap (λ o. o ++ 13 ∷ 10 ∷ []) whole ∙ append_assoc o0 (folded most_octets (name ++ 58 ∷ value)) (13 ∷ 10 ∷ [])

-- an octet for which there is room stands as it is
roomy : (room b : ℕ) (bs : List ℕ) → folded (suc room) (b ∷ bs) ≡ b ∷ folded room bs
unfolding folded
roomy room b bs =
    let test : (suc room == 0) ≡ false = eqb-suc-zero room in
    let less : suc room - 1 ≡ room = omega arith in
    rw (test, less) refl

-- and so do more of them
fits : (octets rest : List ℕ) (room : ℕ) → length octets ≤ room
    → folded room (octets ++ rest) ≡ octets ++ folded (room - length octets) rest
fits [] rest room h = ap (λ r. folded r rest) (sym (sub-zero room))
fits (b ∷ bs) rest zero h = absurd (omega arith)
fits (b ∷ bs) rest (suc room) h =
    let as_much : room - length bs ≡ suc room - length (b ∷ bs) = omega arith in
    roomy room b (bs ++ rest) ∙ ap (λ l. b ∷ l) (fits bs rest room (omega arith)) ∙ ap (λ r. b ∷ bs ++ folded r rest) as_much

-- after those for which there is room, the line ends
cut : (octets rest : List ℕ) (room : ℕ) → room < length octets
    → folded room (octets ++ rest) ≡ take room octets ++ 13 ∷ 10 ∷ 32 ∷ folded (most_octets - 1) (drop room octets ++ rest)
cut [] rest room h = absurd (omega arith)
cut (b ∷ bs) rest zero h = unfold folded in refl
cut (b ∷ bs) rest (suc room) h = roomy room b (bs ++ rest) ∙ ap (λ l. b ∷ l) (cut bs rest room (omega arith))

-- a line that fits is its parts, and CRLF
pub short_line : (out name value : List ℕ) → length name + length value < most_octets
    → (((out ++ name) ++ 58 ∷ []) ++ value) ++ 13 ∷ 10 ∷ [] ≡ out ++ content_line (name ++ 58 ∷ value)
unfolding folded content_line
short_line out name value h =
    let line = name ++ 58 ∷ value in
    let enough : length line ≤ most_octets = simp length-append (omega arith) in
    let as_is : folded most_octets line ≡ line = ap (folded most_octets) (sym (append-nil line)) ∙ fits line [] most_octets enough ∙ append-nil line in
    rw as_is (simp append_assoc)

-- ---- what is appended of octets, where these are left
module _ (out start left octets : List ℕ) (room first : ℕ)
    (so_far : (rest : List ℕ) → out ++ folded room (left ++ rest) ≡ start ++ folded first (octets ++ rest)) where
  -- a line is full
  pub full_line : (front back : List ℕ) → room < length left → front ≡ take room left → back ≡ drop room left → (rest : List ℕ)
      → ((out ++ front) ++ 13 ∷ 10 ∷ 32 ∷ []) ++ folded (most_octets - 1) (back ++ rest) ≡ start ++ folded first (octets ++ rest)
  full_line front back more front_is back_is rest =
      let line = folded (most_octets - 1) (back ++ rest) in
      append_assoc (out ++ front) (13 ∷ 10 ∷ 32 ∷ []) line ∙ append_assoc out front (13 ∷ 10 ∷ 32 ∷ line)
      ∙ ap (λ l. out ++ (l ++ 13 ∷ 10 ∷ 32 ∷ line)) front_is
      ∙ ap (λ l. out ++ (take room left ++ 13 ∷ 10 ∷ 32 ∷ folded (most_octets - 1) (l ++ rest))) back_is
      ∙ ap (λ l. out ++ l) (sym (cut left rest room more)) ∙ so_far rest

  -- all of them are
  pub all_fit : length left ≤ room → (rest : List ℕ)
      → (out ++ left) ++ folded (room - length left) rest ≡ start ++ folded first (octets ++ rest)
  all_fit enough rest =
      append_assoc out left (folded (room - length left) rest) ∙ ap (λ l. out ++ l) (sym (fits left rest room enough)) ∙ so_far rest
