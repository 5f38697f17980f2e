-- Lines that lead from one place to another.
use Rattle.std.proofs.Common.{◌≡◌, ℕ, suc, ◌+◌, nat_lt, Bool, true, false, ◌&&◌, if◌then◌else◌, List, [], ◌∷◌, ◌++◌, length}
use Rattle.std.proofs.Common.{refl, ap, ◌∙◌, append_assoc, None, Some, Ok}
use Rattle.std.specs.List.{list_all}
use Rattle.std.proofs.lemmas.Bool.{cond-true, and_from, and_parts}
use Rattle.std.proofs.Common.{take, drop}
use Rattle.std.proofs.Math.Seq.{take-append_seam, drop-append_seam}
use Rattle.td_base.specs.FirstFault.{◌>>=◌}
use Rattle.vtimezone_reader.specs.declared.standing.Standing.{Standing}
use Rattle.vtimezone.specs.CalendarText.{line}
use Rattle.vtimezone_reader.specs.ContentLines.{is_line_name_byte, name_length, name_of, ends_name, after_colon, value_of}
use Rattle.vtimezone_reader.specs.ReadLines.{step}
use Rattle.vtimezone_reader.specs.ReadLines.{at_line, step_if, line_read, lines_read}

abbrev pub Leads : Standing → List (List ℕ) → Standing → Type 0
Leads s lines now = (n : ℕ) (rest : List (List ℕ)) → (m : ℕ) × (lines_read n s (lines ++ rest) ≡ lines_read m now rest)

pub leads_nothing : (s : Standing) → Leads s [] s
leads_nothing s n rest = (n, refl)

pub leads_on : (a b c : Standing) (xs ys : List (List ℕ)) → Leads a xs b → Leads b ys c → Leads a (xs ++ ys) c
leads_on a b c xs ys one two n rest =
    let first = one n (ys ++ rest) in
    let second = two first.0 rest in
    (second.0, ap (lines_read n a) (append_assoc xs ys rest) ∙ first.1 ∙ second.1)

more_read : (n : ℕ) (s : Standing) (line : List ℕ) (lines : List (List ℕ))
    → lines_read n s (line ∷ lines) ≡ (line_read n s line >>= λ now. lines_read (n + 1) now lines)
unfolding lines_read
more_read n s line lines = refl

-- a name of letters, digits and hyphens
abbrev pub is_plain_name : List ℕ → Bool
is_plain_name name = nat_lt 0 (length name) && list_all is_line_name_byte name

length_named : (name value : List ℕ) → list_all is_line_name_byte name ≡ true → name_length (line name value) ≡ length name
length_named [] value e = refl
length_named (b ∷ bs) value e =
    let both = and_parts (is_line_name_byte b) (list_all is_line_name_byte bs) e in
    cond-true (is_line_name_byte b) (suc (name_length (bs ++ 58 ∷ value))) 0 both.0 ∙ ap suc (length_named bs value both.1)

named_is : (name value : List ℕ) → is_plain_name name ≡ true → name_of (line name value) ≡ name
unfolding name_of
named_is name value e =
    let both = and_parts (nat_lt 0 (length name)) (list_all is_line_name_byte name) e in
    ap (λ n. take n (line name value)) (length_named name value both.1) ∙ take-append_seam name (58 ∷ value)

colon_first : (value : List ℕ) → after_colon false (58 ∷ value) ≡ Some value
unfolding after_colon
colon_first value = refl

valued : (name value : List ℕ) → is_plain_name name ≡ true → value_of (line name value) ≡ Some value
unfolding value_of
valued name value e =
    let both = and_parts (nat_lt 0 (length name)) (list_all is_line_name_byte name) e in
    let long = length_named name value both.1 in
    let rest : drop (name_length (line name value)) (line name value) ≡ 58 ∷ value =
    ap (λ n. drop n (line name value)) long ∙ drop-append_seam name (58 ∷ value) in
    ap (λ n. if nat_lt 0 n && ends_name (drop (name_length (line name value)) (line name value)) then after_colon false
    (drop (name_length (line name value)) (line name value)) else None) long
    ∙ ap (λ t. if nat_lt 0 (length name) && ends_name t then after_colon false t else None) rest
    ∙ cond-true (nat_lt 0 (length name) && true) (after_colon false (58 ∷ value)) None (and_from _ true both.0 refl)
    ∙ colon_first value

pub leads_line : (s now : Standing) (name value : List ℕ) → is_plain_name name ≡ true → step s name value ≡ Ok now → Leads s (line name value ∷ []) now
leads_line s now name value plain is n rest = (
  n + 1,
  more_read n s (line name value) rest
      ∙ ap (λ k. at_line n (step_if s k (value_of (line name value))) >>= λ t. lines_read (n + 1) t rest) (named_is name value plain)
      ∙ ap (λ o. at_line n (step_if s name o) >>= λ t. lines_read (n + 1) t rest) (valued name value plain)
      ∙ ap (λ r. at_line n r >>= λ t. lines_read (n + 1) t rest) is,
)
