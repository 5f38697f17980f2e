-- A record of a block, as it is laid out and as it is cut: moments, types and leap lines.
use Rattle.std.proofs.Common.{◌≡◌, ◌≢◌, ℕ, zero, suc, ◌+◌, ◌*◌, ◌<◌, ◌≤◌, Bool, true, false, cond, eqb, List, [], ◌∷◌, ◌++◌, length, All, get_or, take, drop}
use Rattle.std.proofs.Common.{Option, Some, None, refl, sym, ap, subst, ◌∙◌, arith, nat_lt}
use Rattle.std.specs.Prelude.{ℤ, pos, negsuc, int_lt, ◌≤ℤ◌, ◌||◌}
use Rattle.std.specs.Option.{option_map, option_map_or, unwrap_or}
use Rattle.std.specs.Int.{w32, w64, from_be_bytes, cast_signed, from_bool}
use Rattle.std.proofs.lemmas.Bool.{ltb-false, le-ltb, eqb-true, eqb-false, eq-eqb, ne_eqb, or_parts, or_from}
use Rattle.std.proofs.lemmas.Int.{ints}
use Rattle.std.proofs.lemmas.List.{take_at, drop_at, drop_all, drop_more, drop-drop, drop-take, take-take, take-append-drop, length-append, length-take}
use Rattle.std.proofs.lemmas.List.{length-drop, get_or-take, get_or-drop, get_or-append-add}
use Rattle.std.proofs.lemmas.List.Elements.{All-nil, All-cons, All-head, All-tail}
use Rattle.td_civil.specs.declared.local_time.Local.{Local}
use Rattle.td_civil.specs.declared.moment_type.Moment.{Moment}
use Rattle.tzif_reader.specs.declared.zone_file.LeapLine.{LeapLine}
use Rattle.tzif_reader.specs.Layout.{IsKind, IsLeapLine, IsMoment}
use Rattle.tzif_reader.specs.Cut.{piece, short_at, long_at, before, transition_at, type_offset_at, flag_at, index_at, designation_at, kind_at, leap_at}
use Rattle.tzif_reader.proofs.lemmas.Joined.{length_piece}
use Rattle.tzif_reader.specs.Faults.{is_unnamed, is_beyond}

-- ---- pieces of pieces

pub piece_front : (place size n : ℕ) (text : List ℕ) → n ≤ size → take n (piece place size text) ≡ piece place n text
piece_front place size n text le = take-take n size (drop place text) le

pub piece_cell : (place size k : ℕ) (text : List ℕ) → k < size → get_or (piece place size text) k 0 ≡ get_or text (place + k) 0
piece_cell place size k text lt = get_or-take size (drop place text) k 0 lt ∙ get_or-drop place text k 0

pub piece_rest : (place n m : ℕ) (text : List ℕ) → drop n (piece place (n + m) text) ≡ piece (place + n) m text
piece_rest place n m text = drop-take n m (drop place text) ∙ ap (take m) (drop-drop n place text)

-- ---- the text before a mark

pub record Marks (mark : ℕ) (text name : List ℕ) : Type 0 where
  pub after : List ℕ
  pub whole : text ≡ name ++ mark ∷ after
  pub clear : All (λ b. b ≢ mark) name

pub marks_before : (mark : ℕ) (text name after : List ℕ) → text ≡ name ++ mark ∷ after → All (λ b. b ≢ mark) name → before mark text ≡ Some name
marks_before mark text [] after whole clear = ap (before mark) whole ∙ rw (eq-eqb mark mark refl) refl
marks_before mark text (b ∷ name) after whole clear =
    let more = marks_before mark (name ++ mark ∷ after) name after refl (All-tail (λ b. b ≢ mark) b name clear) in
    let other : eqb b mark ≡ false = ne_eqb b mark (All-head (λ b. b ≢ mark) b name clear) in
    ap (before mark) whole ∙ rw (other, more) refl

marks_cons : (mark b : ℕ) (bs name : List ℕ) (found : Option (List ℕ)) → b ≢ mark → ((t : List ℕ) → found ≡ Some t → Marks mark bs t)
    → option_map (λ t. b ∷ t) found ≡ Some name → Marks mark (b ∷ bs) name
marks_cons mark b bs name None ne more h = absurd cc
marks_cons mark b bs name (Some t) ne more h =
    let m = more t refl in
    let e : b ∷ t ≡ name = cc in
    subst (λ (n : List ℕ). Marks mark (b ∷ bs) n) e
    (record { after = m.after; whole = ap (λ (r : List ℕ). b ∷ r) m.whole; clear = All-cons (λ b. b ≢ mark) b t ne m.clear })

marks_case : (mark b : ℕ) (bs name : List ℕ) (same : Bool) → eqb b mark ≡ same → ((t : List ℕ) → before mark bs ≡ Some t → Marks mark bs t)
    → cond same (Some []) (option_map (λ t. b ∷ t) (before mark bs)) ≡ Some name → Marks mark (b ∷ bs) name
marks_case mark b bs name true eq more h =
    let e : [] ≡ name = cc in
    subst (λ (n : List ℕ). Marks mark (b ∷ bs) n) e
    (record { after = bs; whole = ap (λ (k : ℕ). k ∷ bs) (eqb-true b mark eq); clear = All-nil (λ b. b ≢ mark) })
marks_case mark b bs name false eq more h = marks_cons mark b bs name (before mark bs) (eqb-false b mark eq) more h

pub before_marks : (mark : ℕ) (text name : List ℕ) → before mark text ≡ Some name → Marks mark text name
before_marks mark [] name h = absurd cc
before_marks mark (b ∷ bs) name h = marks_case mark b bs name (eqb b mark) refl (before_marks mark bs) h

-- ---- types

pub le_from_test : (a b : ℤ) → int_lt a b ≡ false → b ≤ℤ a
le_from_test a b h = grind (arith, ints)

pub test_from_le : (a b : ℤ) → b ≤ℤ a → int_lt a b ≡ false
test_from_le a b h = grind (arith, ints)

six_cells : (p : List ℕ) → length p ≡ 6 → p ≡ take 4 p ++ (get_or p 4 0 ∷ get_or p 5 0 ∷ [])
six_cells p len =
    let end : drop 6 p ≡ [] = drop_all 6 p (omega arith) in
    let rest : drop 4 p ≡ get_or p 4 0 ∷ get_or p 5 0 ∷ [] =
    drop_more p 4 0 (omega arith) ∙ ap (λ (r : List ℕ). get_or p 4 0 ∷ r) (drop_more p 5 0 (omega arith) ∙ ap (λ (r : List ℕ). get_or p 5 0 ∷ r) end) in
    sym (take-append-drop 4 p) ∙ ap (λ (r : List ℕ). take 4 p ++ r) rest

pub flag_is : (n : ℕ) → n ≤ 1 → n ≡ from_bool (eqb n 1)
flag_is zero le = refl
flag_is (suc zero) le = refl
flag_is (suc (suc n)) le = absurd (omega arith)

flag_of : (dst : Bool) → dst ≡ eqb (from_bool dst) 1
flag_of true = refl
flag_of false = refl

flag_low : (dst : Bool) → from_bool dst ≤ 1
flag_low true = omega arith
flag_low false = omega arith

pub named_some : (o : Option (List ℕ)) → option_map_or (λ name. nat_lt 32 (length name)) o true ≡ false
    → (o ≡ Some (unwrap_or o [])) × (length (unwrap_or o []) ≤ 32)
named_some None h = absurd cc
named_some (Some name) h = (refl, ltb-false 32 (length name) h)

piece_is : (types : List ℕ) (i : ℕ) (dst : Bool) → 6 * i + 6 ≤ length types → flag_at types i ≡ from_bool dst → piece (6 * i) 6 types ≡ piece (6 * i) 4 types
    ++ (from_bool dst ∷ index_at types i ∷ [])
piece_is types i dst room flag =
    let p : List ℕ = piece (6 * i) 6 types in
    let cells : piece (6 * i) 6 types ≡ take 4 (piece (6 * i) 6 types) ++ (get_or (piece (6 * i) 6 types) 4 0 ∷ get_or (piece (6 * i) 6 types) 5 0 ∷ []) =
    six_cells (piece (6 * i) 6 types) (length_piece (6 * i) 6 types room) in
    let front : take 4 (piece (6 * i) 6 types) ≡ piece (6 * i) 4 types = piece_front (6 * i) 6 4 types (omega arith) in
    let four : get_or (piece (6 * i) 6 types) 4 0 ≡ from_bool dst = piece_cell (6 * i) 6 4 types (omega arith) ∙ flag in
    let five : get_or (piece (6 * i) 6 types) 5 0 ≡ index_at types i = piece_cell (6 * i) 6 5 types (omega arith) in
    cells ∙ (ap (λ (f : List ℕ). f ++ (get_or (piece (6 * i) 6 types) 4 0 ∷ get_or (piece (6 * i) 6 types) 5 0 ∷ [])) front
    ∙ (ap (λ (n : ℕ). piece (6 * i) 4 types ++ (n ∷ get_or (piece (6 * i) 6 types) 5 0 ∷ [])) four
    ∙ ap (λ (n : ℕ). piece (6 * i) 4 types ++ (from_bool dst ∷ n ∷ [])) five))

pub kind_is : (designations types : List ℕ) (i : ℕ) → 6 * i + 6 ≤ length types → is_unnamed designations types i ≡ false → flag_at types i ≤ 1
    → is_beyond types i ≡ false → IsKind designations (piece (6 * i) 6 types) (kind_at designations types i)
unfolding short_at designation_at
kind_is designations types i room is_named low_flag within =
    let n = named_some (designation_at designations types i) is_named in
    let name : List ℕ = unwrap_or (designation_at designations types i) [] in
    let m = before_marks 0 (drop (index_at types i) designations) (unwrap_or (designation_at designations types i) []) n.0 in
    let range = or_parts (int_lt (type_offset_at types i) (negsuc 86398)) (int_lt (pos 86399) (type_offset_at types i)) within in
    record {
      offset = piece (6 * i) 4 types;
      index = index_at types i;
      before = take (index_at types i) designations;
      after = m.after;
      whole = piece_is types i (eqb (flag_at types i) 1) room (flag_is (flag_at types i) low_flag);
      offset_size = length_piece (6 * i) 4 types (omega arith);
      offset_is = refl;
      low = le_from_test (type_offset_at types i) (negsuc 86398) range.0;
      high = le_from_test (pos 86399) (type_offset_at types i) range.1;
      name_place = omega (
        arith,
        length-take (index_at types i) designations,
        length-drop (index_at types i) designations,
        ap length m.whole,
        length-append
            (unwrap_or (designation_at designations types i) []) (0 ∷ m.after),
      );
      name_is = sym (take-append-drop (index_at types i) designations) ∙ ap (λ (r : List ℕ). take (index_at types i) designations ++ r) m.whole;
      name_ends = m.clear;
      name_size = n.1;
    }

-- what type i is, cut
pub record CutsKind (designations types : List ℕ) (i : ℕ) (k : Local) : Type 0 where
  pub kind_is : k ≡ kind_at designations types i
  pub is_named : is_unnamed designations types i ≡ false
  pub flag : flag_at types i ≤ 1
  pub within : is_beyond types i ≡ false

pub cell_of : (front rest : List ℕ) (k : ℕ) → length front ≡ 4 → get_or (front ++ rest) (4 + k) 0 ≡ get_or rest k 0
cell_of front rest k len = subst (λ (n : ℕ). get_or (front ++ rest) (n + k) 0 ≡ get_or rest k 0) len (get_or-append-add front rest k 0)

same_local : (o p : ℤ) (d e : Bool) (n m : List ℕ) (k : Local) → k ≡ record { offset = o; dst = d; name = n } → o ≡ p → d ≡ e → n ≡ m
    → k ≡ record { offset = p; dst = e; name = m }
same_local o p d e n m k h a b c = rw (← a, ← b, ← c) h

pub kind_cuts : (designations types : List ℕ) (i : ℕ) (k : Local) → IsKind designations (piece (6 * i) 6 types) k → CutsKind designations types i k
unfolding short_at designation_at
kind_cuts designations types i k is =
    let flag : flag_at types i ≡ from_bool k.dst =
    sym (piece_cell (6 * i) 6 4 types (omega arith))
    ∙ (ap (λ (p : List ℕ). get_or p 4 0) is.whole ∙ cell_of is.offset (from_bool k.dst ∷ is.index ∷ []) 0 is.offset_size) in
    let index : index_at types i ≡ is.index =
    sym (piece_cell (6 * i) 6 5 types (omega arith))
    ∙ (ap (λ (p : List ℕ). get_or p 5 0) is.whole ∙ cell_of is.offset (from_bool k.dst ∷ is.index ∷ []) 1 is.offset_size) in
    let bytes : is.offset ≡ piece (6 * i) 4 types =
    sym (sym (piece_front (6 * i) 6 4 types (omega arith)) ∙ (ap (take 4) is.whole ∙ take_at is.offset (from_bool k.dst ∷ is.index ∷ []) 4 is.offset_size))
    in
    let offset : k.offset ≡ type_offset_at types i = is.offset_is ∙ ap (λ (p : List ℕ). cast_signed w32 (from_be_bytes w32 p)) bytes in
    let text : drop (index_at types i) designations ≡ k.name ++ 0 ∷ is.after =
    ap (λ (n : ℕ). drop n designations) index ∙ (ap (drop is.index) is.name_is ∙ drop_at is.before (k.name ++ 0 ∷ is.after) is.index is.name_place) in
    let name : designation_at designations types i ≡ Some k.name = marks_before 0 (drop (index_at types i) designations) k.name is.after text is.name_ends in
    record {
      kind_is = same_local k.offset (type_offset_at types i) k.dst (eqb (flag_at types i) 1) k.name (unwrap_or (designation_at designations types i) []) k refl
          offset (flag_of k.dst ∙ ap (λ (n : ℕ). eqb n 1) (sym flag)) (sym (ap (λ (o : Option (List ℕ)). unwrap_or o []) name));
      is_named = ap (λ (o : Option (List ℕ)). option_map_or (λ name. nat_lt 32 (length name)) o true) name ∙ le-ltb 32 (length k.name) is.name_size;
      flag = subst (λ (n : ℕ). n ≤ 1) (sym flag) (flag_low k.dst);
      within = subst (λ (o : ℤ). (int_lt o (negsuc 86398) || int_lt (pos 86399) o) ≡ false) offset
          (or_from _ _ (test_from_le k.offset (negsuc 86398) is.low) (test_from_le (pos 86399) k.offset is.high));
    }

-- ---- leap lines and moments

pub leap_is : (leaps : List ℕ) (i : ℕ) → 12 * i + 12 ≤ length leaps → IsLeapLine (piece (12 * i) 12 leaps) (leap_at leaps i)
unfolding short_at long_at
leap_is leaps i room = record {
  time = piece (12 * i) 8 leaps;
  correction = piece (12 * i + 8) 4 leaps;
  whole = sym (take-append-drop 8 (piece (12 * i) 12 leaps))
      ∙ (ap (λ (f : List ℕ). f ++ drop 8 (piece (12 * i) 12 leaps)) (piece_front (12 * i) 12 8 leaps (omega arith))
      ∙ ap (λ (r : List ℕ). piece (12 * i) 8 leaps ++ r) (piece_rest (12 * i) 8 4 leaps));
  time_size = length_piece (12 * i) 8 leaps (omega arith);
  at_is = refl;
  correction_is = refl;
}

same_line : (a b c d : ℤ) (line : LeapLine) → line ≡ record { at = a; correction = c } → a ≡ b → c ≡ d → line ≡ record { at = b; correction = d }
same_line a b c d line h e f = rw (← e, ← f) h

pub leap_cuts : (leaps : List ℕ) (i : ℕ) (line : LeapLine) → IsLeapLine (piece (12 * i) 12 leaps) line → line ≡ leap_at leaps i
unfolding short_at long_at
leap_cuts leaps i line is =
    let time : is.time ≡ piece (12 * i) 8 leaps =
    sym (sym (piece_front (12 * i) 12 8 leaps (omega arith)) ∙ (ap (take 8) is.whole ∙ take_at is.time is.correction 8 is.time_size)) in
    let rest : is.correction ≡ piece (12 * i + 8) 4 leaps =
    sym (sym (piece_rest (12 * i) 8 4 leaps) ∙ (ap (drop 8) is.whole ∙ drop_at is.time is.correction 8 is.time_size)) in
    same_line line.at (long_at (12 * i) leaps) line.correction (short_at (12 * i + 8) leaps) line refl
    (is.at_is ∙ ap (λ (p : List ℕ). cast_signed w64 (from_be_bytes w64 p)) time)
    (is.correction_is ∙ ap (λ (p : List ℕ). cast_signed w32 (from_be_bytes w32 p)) rest)

abbrev moment : ℤ → Moment
moment s = record { seconds = s }

pub moment_is : (times : List ℕ) (i : ℕ) → IsMoment (piece (8 * i) 8 times) (transition_at times i)
unfolding long_at
moment_is times i = refl

pub moment_cuts : (times : List ℕ) (i : ℕ) (m : Moment) → IsMoment (piece (8 * i) 8 times) m → m ≡ transition_at times i
unfolding long_at
moment_cuts times i m is = ap (λ (s : ℤ). moment s) is
