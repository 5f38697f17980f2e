-- Each byte of an identifier of a time zone stands for itself in a text of a calendar.
use Rattle.std.proofs.Common.{◌≡◌, ℕ, ◌==◌, List, [], ◌∷◌, length, Bool, true, false, IsTrue, nat_le, refl, arith, cond}
use Rattle.std.proofs.lemmas.Bool.{and_parts}
use Rattle.std.proofs.lemmas.Bool.Decides.{nat_tests}
use Rattle.std.specs.List.{list_all}
use Rattle.td_base.specs.Names.{with_first, segments, is_name_byte, is_segment, is_path, is_identifier}
use Rattle.recurrence.specs.Spellable.{is_safe, IsSafe}

name_byte_safe : (b : ℕ) → is_name_byte b ≡ true → is_safe b ≡ true
name_byte_safe b h = grind (arith, nat_tests)

slash_safe : (b : ℕ) → (b == 47) ≡ true → is_safe b ≡ true
slash_safe b h = grind (arith, nat_tests)

-- whether the pieces have no other bytes than names may have
abbrev are_name_bytes : List (List ℕ) → Bool
are_name_bytes pieces = list_all (list_all is_name_byte) pieces

segment_bytes : (pieces : List (List ℕ)) → list_all is_segment pieces ≡ true → are_name_bytes pieces ≡ true
segment_bytes [] all = refl
segment_bytes (piece ∷ pieces) all =
    let parts = and_parts (is_segment piece) (list_all is_segment pieces) all in
    rw ((and_parts (nat_le 1 (length piece)) (list_all is_name_byte piece) parts.0).1, segment_bytes pieces parts.1) refl

first_byte : (b : ℕ) (pieces : List (List ℕ)) → are_name_bytes (with_first b pieces) ≡ true → (is_name_byte b ≡ true) × (are_name_bytes pieces ≡ true)
first_byte b [] all = ((and_parts (is_name_byte b) true ((and_parts _ true all).0)).0, refl)
first_byte b (piece ∷ pieces) all =
    let parts = and_parts (list_all is_name_byte (b ∷ piece)) (are_name_bytes pieces) all in
    let first = and_parts (is_name_byte b) (list_all is_name_byte piece) parts.0 in
    (first.0, rw (first.1, parts.1) refl)

safe_by : (slash : Bool) (b : ℕ) (bs : List ℕ) → (b == 47) ≡ slash → (are_name_bytes (segments bs) ≡ true → IsSafe bs)
    → are_name_bytes (cond slash ([] ∷ segments bs) (with_first b (segments bs))) ≡ true → IsSafe (b ∷ bs)
safe_by true b bs is rest all = rw (slash_safe b is) (rest all)
safe_by false b bs is rest all =
    let parts = first_byte b (segments bs) all in
    rw (name_byte_safe b parts.0) (rest parts.1)

pieces_safe : (text : List ℕ) → are_name_bytes (segments text) ≡ true → IsSafe text
unfolding segments
pieces_safe [] all = refl
pieces_safe (b ∷ bs) all = safe_by (b == 47) b bs refl (pieces_safe bs) all

pub identifier_is_safe : (text : List ℕ) → IsTrue (is_identifier text) → IsSafe text
unfolding is_path
identifier_is_safe text h = pieces_safe text (segment_bytes (segments text) (and_parts (nat_le (length text) 64) _ h).1)
