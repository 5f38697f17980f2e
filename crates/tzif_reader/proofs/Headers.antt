-- A header, as it is laid out and as it is cut.
use Rattle.std.proofs.Common.{◌≡◌, ℕ, ◌+◌, ◌<◌, ◌≤◌, Bool, true, false, List, [], ◌∷◌, ◌++◌, length, take, drop, None, refl, sym, ap, ◌∙◌, arith}
use Rattle.std.specs.Prelude.{not, nat_lt}
use Rattle.std.specs.Bool.{nat_eq, Decides}
use Rattle.std.specs.List.{starts_with}
use Rattle.std.specs.Int.{w32, from_be_bytes}
use Rattle.std.proofs.lemmas.Bool.{ltb-false, not-false, not_from_true, le-ltb, eqb-true, eq-eqb}
use Rattle.std.proofs.lemmas.List.{drop_at, drop_all, drop_more, drop-drop, length-append}
use Rattle.std.proofs.lemmas.Slice.Eq.{starts_is}
use Rattle.tzif_reader.specs.declared.counts.Counts.{Counts}
use Rattle.tzif_reader.specs.declared.tzif_fault.TzifFault.{TzifFault}
use Rattle.tzif_reader.specs.declared.tzif_fault.TzifFault.TheVariants.{Magic, Short}
use Rattle.tzif_reader.specs.Layout.{IsUnsigned, IsHeader, magic, counts_listed}
use Rattle.tzif_reader.specs.Cut.{piece, unsigned_at, version_in, counts_in}
use Rattle.td_base.specs.FirstFault.{when}
use Rattle.tzif_reader.specs.Faults.{room_fault, header_fault}
use Rattle.td_base.proofs.lemmas.FaultLemmas.{first, second, neither}
use Rattle.tzif_reader.proofs.lemmas.Joined.{join_step, joined_length, joined_at, cut_at, length_piece}

pub when_none : (test : Bool) (fault : TzifFault) → when test fault ≡ None → test ≡ false
when_none true fault h = absurd cc
when_none false fault h = refl

pub none_when : (test : Bool) (fault : TzifFault) → test ≡ false → when test fault ≡ None
none_when test fault h = rw h refl

pub room_none : (place size : ℕ) (bytes : List ℕ) → room_fault place size bytes ≡ None → place + size ≤ length bytes
room_none place size bytes h = ltb-false _ _ (when_none (nat_lt (length bytes) (place + size)) (Short place) h)

pub none_room : (place size : ℕ) (bytes : List ℕ) → place + size ≤ length bytes → room_fault place size bytes ≡ None
none_room place size bytes le = none_when (nat_lt (length bytes) (place + size)) (Short place) (le-ltb _ _ le)

decides : (a b : ℕ) → Decides (nat_eq a b) (a ≡ b)
decides a b = (eqb-true a b, eq-eqb a b)

begins : (h : List ℕ) → starts_with nat_eq h magic ≡ true → h ≡ magic ++ drop 4 h
begins h starts = (starts_is decides h magic (starts_with nat_eq h magic) refl).0 starts

pub header_is : (h : List ℕ) → length h ≡ 44 → starts_with nat_eq h magic ≡ true → IsHeader h (version_in h) (counts_in h)
unfolding unsigned_at
header_is h len starts = record {
  reserved = piece 5 15 h;
  numbers = drop 20 h;
  whole = begins h starts ∙ ap (λ (r : List ℕ). magic ++ r) (drop_more h 4 0 (omega arith) ∙ ap (λ (r : List ℕ). version_in h ∷ r) (cut_at 5 15 h));
  reserved_size = length_piece 5 15 h (omega arith);
  six =
      join_step 4 (IsUnsigned w32) h 20 (unsigned_at 20 h) (unsigned_at 24 h ∷ unsigned_at 28 h ∷ unsigned_at 32 h ∷ unsigned_at 36 h ∷ unsigned_at 40 h ∷ [])
      (omega arith) refl
      (join_step 4 (IsUnsigned w32) h 24 (unsigned_at 24 h) (unsigned_at 28 h ∷ unsigned_at 32 h ∷ unsigned_at 36 h ∷ unsigned_at 40 h ∷ []) (omega arith) refl
      (join_step 4 (IsUnsigned w32) h 28 (unsigned_at 28 h) (unsigned_at 32 h ∷ unsigned_at 36 h ∷ unsigned_at 40 h ∷ []) (omega arith) refl
      (join_step 4 (IsUnsigned w32) h 32 (unsigned_at 32 h) (unsigned_at 36 h ∷ unsigned_at 40 h ∷ []) (omega arith) refl
      (join_step 4 (IsUnsigned w32) h 36 (unsigned_at 36 h) (unsigned_at 40 h ∷ []) (omega arith) refl
      (join_step 4 (IsUnsigned w32) h 40 (unsigned_at 40 h) ([]) (omega arith) refl (drop_all 44 h (omega arith)))))));
}

-- what a header is, cut
pub record CutsHeader (h : List ℕ) (version : ℕ) (counts : Counts) : Type 0 where
  pub size : length h ≡ 44
  pub starts : starts_with nat_eq h magic ≡ true
  pub version_is : version_in h ≡ version
  pub counts_are : counts_in h ≡ counts

count_at : (h numbers : List ℕ) (k : ℕ) → drop 20 h ≡ numbers → from_be_bytes w32 (piece k 4 numbers) ≡ unsigned_at (20 + k) h
unfolding unsigned_at
count_at h numbers k e = ap (λ (t : List ℕ). from_be_bytes w32 (take 4 t)) (ap (drop k) (sym e) ∙ drop-drop k 20 h)

same_counts : (h : List ℕ) (c : Counts) → unsigned_at 20 h ≡ c.isutcnt → unsigned_at 24 h ≡ c.isstdcnt → unsigned_at 28 h ≡ c.leapcnt
    → unsigned_at 32 h ≡ c.timecnt → unsigned_at 36 h ≡ c.typecnt → unsigned_at 40 h ≡ c.charcnt → counts_in h ≡ c
same_counts h c e0 e1 e2 e3 e4 e5 = rw (e0, e1, e2, e3, e4, e5) refl

pub header_cuts : (h : List ℕ) (v : ℕ) (c : Counts) → IsHeader h v c → CutsHeader h v c
header_cuts h v c is =
    let len = joined_length 4 (IsUnsigned w32) is.numbers (counts_listed c) is.six in
    let rest : drop 20 h ≡ is.numbers = ap (drop 20) is.whole ∙ drop_at is.reserved is.numbers 15 is.reserved_size in
    let at = λ (i : ℕ) (lt : i < 6). joined_at 4 (IsUnsigned w32) is.numbers (counts_listed c) i 0 is.six lt in
    record {
      size = omega (arith, ap length is.whole, length-append is.reserved is.numbers, is.reserved_size, len);
      starts = (starts_is decides h magic (starts_with nat_eq h magic) refl).1 (v ∷ (is.reserved ++ is.numbers)) is.whole;
      version_is = ap version_in is.whole;
      counts_are = same_counts h c
          (sym (at 0 (omega arith) ∙ count_at h is.numbers 0 rest))
          (sym (at 1 (omega arith) ∙ count_at h is.numbers 4 rest))
          (sym (at 2 (omega arith) ∙ count_at h is.numbers 8 rest))
          (sym (at 3 (omega arith) ∙ count_at h is.numbers 12 rest))
          (sym (at 4 (omega arith) ∙ count_at h is.numbers 16 rest))
          (sym (at 5 (omega arith) ∙ count_at h is.numbers 20 rest));
    }

-- a header at a place

pub record HeaderAt (place : ℕ) (bytes : List ℕ) : Type 0 where
  pub room : place + 44 ≤ length bytes
  pub starts : starts_with nat_eq (piece place 44 bytes) magic ≡ true

pub header_none : (place : ℕ) (bytes : List ℕ) → header_fault place bytes ≡ None → HeaderAt place bytes
unfolding header_fault
header_none place bytes h =
    let m = when_none (not (starts_with nat_eq (piece place 44 bytes) magic)) Magic (second (room_fault place 44 bytes) _ h) in
    record { room = room_none place 44 bytes (first _ _ h); starts = not-false _ m }

pub none_header : (place : ℕ) (bytes : List ℕ) → place + 44 ≤ length bytes → starts_with nat_eq (piece place 44 bytes) magic ≡ true
    → header_fault place bytes ≡ None
unfolding header_fault
none_header place bytes room starts =
    neither (room_fault place 44 bytes) (when (not (starts_with nat_eq (piece place 44 bytes) magic)) Magic) (none_room place 44 bytes room)
    (none_when _ Magic (not_from_true _ starts))
