-- The text of a pattern, read back.
use Rattle.std.proofs.Common.{◌≡◌, ◌<◌, ℕ, ◌+◌, Bool, true, false, ◌||◌, cond, List, [], ◌∷◌, ◌++◌, length, Ok, refl, ap, ◌∙◌, append_assoc, arith}
use Rattle.std.specs.List.{flat_map}
use Rattle.find_pattern.specs.declared.pattern_type.Pattern.{Pattern}
use Rattle.find_pattern.specs.Patterns.{is_star, is_backslash, is_special, literal, with_byte, with_lead, read_from, pattern}
use Rattle.find_pattern.specs.Spelling.{spelled_byte, star_if, spelled_as, is_spelled}

neither : (s t : Bool) → (s || t) ≡ false → (s ≡ false) × (t ≡ false)
neither true t e = cc
neither false t e = (refl, e)

-- a byte that stands for itself
plain_byte : (at b : ℕ) (rest : List ℕ) → is_special b ≡ false → read_from at (b ∷ rest) ≡ with_byte b (read_from (at + 1) rest)
unfolding read_from
plain_byte at b [] e = let p = neither (is_star b) (is_backslash b) e in rw (p.0, p.1) refl
plain_byte at b (c ∷ rest) e = let p = neither (is_star b) (is_backslash b) e in rw (p.0, p.1) refl

-- a byte with a backslash before it
special_byte : (at b : ℕ) (rest : List ℕ) → is_special b ≡ true → read_from at (92 ∷ b ∷ rest) ≡ with_byte b (read_from (at + 2) rest)
unfolding read_from
special_byte at b rest e = rw e refl

reads_byte : (t : Bool) (at b : ℕ) (rest : List ℕ) (p : Pattern) → is_special b ≡ t → ((place : ℕ) → read_from place rest ≡ Ok p)
    → read_from at (cond t (92 ∷ b ∷ []) (b ∷ []) ++ rest) ≡ with_byte b (Ok p)
reads_byte true at b rest p e next = special_byte at b rest e ∙ ap (with_byte b) (next (at + 2))
reads_byte false at b rest p e next = plain_byte at b rest e ∙ ap (with_byte b) (next (at + 1))

reads_end : (trail : Bool) (at : ℕ) → read_from at (star_if trail) ≡ Ok (literal [] trail)
unfolding read_from
reads_end true at = refl
reads_end false at = refl

-- a text is read as itself
reads_text : (text : List ℕ) (trail : Bool) (at : ℕ) → read_from at (flat_map spelled_byte text ++ star_if trail) ≡ Ok (literal text trail)
reads_text [] trail at = reads_end trail at
reads_text (b ∷ text) trail at =
    ap (read_from at) (append_assoc (spelled_byte b) (flat_map spelled_byte text) (star_if trail))
    ∙ reads_byte (is_special b) at b (flat_map spelled_byte text ++ star_if trail) (literal text trail) refl (λ place. reads_text text trail place)

-- with a star before it
after_star : (rest : List ℕ) → 0 < length rest → pattern (42 ∷ rest) ≡ with_lead (read_from 1 rest)
unfolding pattern
after_star [] h = absurd (omega arith)
after_star (b ∷ rest) h = refl

some_byte : (t : Bool) (b : ℕ) (rest : List ℕ) → 0 < length (cond t (92 ∷ b ∷ []) (b ∷ []) ++ rest)
some_byte true b rest = omega arith
some_byte false b rest = omega arith

some_text : (trail : Bool) (text : List ℕ) → is_spelled true trail text ≡ true → 0 < length (flat_map spelled_byte text ++ star_if trail)
some_text true [] h = omega arith
some_text false [] h = cc
some_text trail (b ∷ text) h =
    rw (append_assoc (spelled_byte b) (flat_map spelled_byte text) (star_if trail))
    (some_byte (is_special b) b (flat_map spelled_byte text ++ star_if trail))

-- without one
without_star : (b : ℕ) (rest : List ℕ) → is_star b ≡ false → pattern (b ∷ rest) ≡ read_from 0 (b ∷ rest)
unfolding pattern
without_star b [] e = rw e refl
without_star b (c ∷ rest) e = rw e refl

no_star : (t : Bool) (b : ℕ) (rest : List ℕ) → is_special b ≡ t
    → pattern (cond t (92 ∷ b ∷ []) (b ∷ []) ++ rest) ≡ read_from 0 (cond t (92 ∷ b ∷ []) (b ∷ []) ++ rest)
no_star true b rest e = without_star 92 (b ∷ rest) refl
no_star false b rest e = without_star b rest (neither (is_star b) (is_backslash b) e).0

no_lead : (trail : Bool) (text : List ℕ) → is_spelled false trail text ≡ true
    → pattern (flat_map spelled_byte text ++ star_if trail) ≡ read_from 0 (flat_map spelled_byte text ++ star_if trail)
unfolding pattern
no_lead false [] h = refl
no_lead true [] h = cc
no_lead trail (b ∷ text) h =
    rw (append_assoc (spelled_byte b) (flat_map spelled_byte text) (star_if trail))
    (no_star (is_special b) b (flat_map spelled_byte text ++ star_if trail) refl)

pub reads_back : (lead trail : Bool) (text : List ℕ) → is_spelled lead trail text ≡ true
    → pattern (spelled_as lead trail text) ≡ Ok (record { lead = lead; trail = trail; text = text })
reads_back true trail text h =
    after_star (flat_map spelled_byte text ++ star_if trail) (some_text trail text h) ∙ ap with_lead (reads_text text trail 1)
reads_back false trail text h = no_lead trail text h ∙ reads_text text trail 0
