-- The texts that name things in a release are plain.
use Rattle.std.proofs.Common.{◌≡◌, ℕ, ◌==◌, List, [], ◌∷◌, length, Bool, true, false, IsTrue, nat_le, refl, arith, cond}
use Rattle.std.proofs.lemmas.Bool.{and_parts}
use Rattle.std.proofs.lemmas.Bool.Decides.{nat_tests}
use Rattle.std.specs.List.{list_all}
use Rattle.td_base.specs.Names.{with_first, segments, is_name_byte, is_segment, is_path, is_identifier, is_printable, is_label, IsPlain}

pub label_is_plain : (text : List ℕ) → IsTrue (is_label text) → IsPlain text
unfolding is_label
label_is_plain text label = grind (arith, nat_tests)

-- whether the pieces have no other bytes than names may have
abbrev all_name_bytes : List (List ℕ) → Bool
all_name_bytes pieces = list_all (list_all is_name_byte) pieces

name_bytes : (pieces : List (List ℕ)) → IsTrue (list_all is_segment pieces) → IsTrue (all_name_bytes pieces)
name_bytes [] all = refl
name_bytes (piece ∷ pieces) all =
    let parts = and_parts (is_segment piece) (list_all is_segment pieces) all in
    let one = (and_parts (nat_le 1 (length piece)) (list_all is_name_byte piece) parts.0).1 in
    let rest = name_bytes pieces parts.1 in
    rw (one, rest)

printable_from_name : (b : ℕ) → IsTrue (is_name_byte b) → IsTrue (is_printable b)
printable_from_name b name = grind (arith, nat_tests)

printable_slash : (b : ℕ) → (b == 47) ≡ true → IsTrue (is_printable b)
printable_slash b slash = grind (arith, nat_tests)

first_piece : (b : ℕ) (pieces : List (List ℕ)) → IsTrue (all_name_bytes (with_first b pieces)) → IsTrue (is_name_byte b) × IsTrue (all_name_bytes pieces)
first_piece b [] all = ((and_parts (is_name_byte b) true ((and_parts _ true all).0)).0, refl)
first_piece b (piece ∷ pieces) all =
    let parts = and_parts (list_all is_name_byte (b ∷ piece)) (all_name_bytes pieces) all in
    let first = and_parts (is_name_byte b) (list_all is_name_byte piece) parts.0 in
    (first.0, rw (first.1, parts.1))

-- one more byte, where the rest is plain
plain_by_byte : (slash : Bool) (b : ℕ) (bs : List ℕ) → (b == 47) ≡ slash → (IsTrue (all_name_bytes (segments bs)) → IsPlain bs)
    → IsTrue (all_name_bytes (cond slash ([] ∷ segments bs) (with_first b (segments bs)))) → IsPlain (b ∷ bs)
plain_by_byte true b bs is rest all = rw (printable_slash b is) (rest all)
plain_by_byte false b bs is rest all =
    let parts = first_piece b (segments bs) all in
    rw (printable_from_name b parts.0) (rest parts.1)

plain_from_pieces : (text : List ℕ) → IsTrue (all_name_bytes (segments text)) → IsPlain text
unfolding segments
plain_from_pieces [] all = refl
plain_from_pieces (b ∷ bs) all = plain_by_byte (b == 47) b bs refl (plain_from_pieces bs) all

pub identifier_is_plain : (text : List ℕ) → IsTrue (is_identifier text) → IsPlain text
unfolding is_path
identifier_is_plain text identifier =
    plain_from_pieces text (name_bytes (segments text) (and_parts (nat_le (length text) 64) _ identifier).1)
