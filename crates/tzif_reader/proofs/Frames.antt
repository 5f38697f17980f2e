-- What it means that no fault of the sizes, the headers and the counts comes.
use Rattle.std.proofs.Common.{◌≡◌, ◌≢◌, ℕ, ◌+◌, ◌≤◌, Bool, true, eqb, List, length, None, arith, inl, inr, ◌⊎◌}
use Rattle.std.specs.Prelude.{nat_lt, nat_le, not, ◌==◌, ◌&&◌, ◌||◌}
use Rattle.std.proofs.lemmas.Bool.{ltb-false, le-ltb, eqb-true, eqb-false, eq-eqb, ne_eqb, leb-true, le-leb, not-false, not_from_true, and_parts, and_from}
use Rattle.std.proofs.lemmas.Bool.{or_parts, or_from, or_cases, or_left, or_right}
use Rattle.tzif_reader.specs.declared.counts.Counts.{Counts}
use Rattle.tzif_reader.specs.declared.tzif_fault.TzifFault.TheVariants.{Version, Counts as BadCounts, TooLarge}
use Rattle.tzif_reader.specs.Layout.{AreCounts, IsVersion, first_block_size, second_block_size}
use Rattle.tzif_reader.specs.Cut.{version_in, counts_in, first_header, second_place, second_header, counts_of, block_place}
use Rattle.td_base.specs.FirstFault.{when}
use Rattle.tzif_reader.specs.Faults.{room_fault, header_fault, stands_for_all, counts_fault, frame_fault}
use Rattle.td_base.proofs.lemmas.FaultLemmas.{first, second, neither}
use Rattle.tzif_reader.proofs.Headers.{when_none, none_when, room_none, none_room, HeaderAt, header_none, none_header}

stands : (count types : ℕ) → stands_for_all count types ≡ true → (count ≡ 0) ⊎ (count ≡ types)
stands count types h =
    elim (or_cases (eqb count 0) (eqb count types) h) [
      | inl z ↦ inl (eqb-true count 0 z)
      | inr e ↦ inr (eqb-true count types e)
    ]

stands_back : (count types : ℕ) → (count ≡ 0) ⊎ (count ≡ types) → stands_for_all count types ≡ true
stands_back count types (inl z) = or_left _ _ (eq-eqb count 0 z)
stands_back count types (inr e) = or_right _ _ (eq-eqb count types e)

pub counts_none : (c : Counts) → counts_fault c ≡ None → AreCounts c
unfolding counts_fault
counts_none c h =
    let test : Bool = eqb c.typecnt 0 || eqb c.charcnt 0 || not (stands_for_all c.isutcnt c.typecnt) || not (stands_for_all c.isstdcnt c.typecnt) in
    let large = second (when (eqb c.typecnt 0 || eqb c.charcnt 0 || not (stands_for_all c.isutcnt c.typecnt) || not (stands_for_all c.isstdcnt c.typecnt))
    BadCounts) _ h in
    let small = when_none (eqb c.typecnt 0 || eqb c.charcnt 0 || not (stands_for_all c.isutcnt c.typecnt) || not (stands_for_all c.isstdcnt c.typecnt))
    BadCounts (first _ _ h) in
    let a = or_parts (eqb c.typecnt 0 || eqb c.charcnt 0 || not (stands_for_all c.isutcnt c.typecnt)) (not (stands_for_all c.isstdcnt c.typecnt)) small in
    let b = or_parts (eqb c.typecnt 0 || eqb c.charcnt 0) (not (stands_for_all c.isutcnt c.typecnt)) a.0 in
    let d = or_parts (eqb c.typecnt 0) (eqb c.charcnt 0) b.0 in
    let types : c.typecnt ≢ 0 = eqb-false c.typecnt 0 d.0 in
    let chars : c.charcnt ≢ 0 = eqb-false c.charcnt 0 d.1 in
    record {
      types = omega arith;
      designations = omega arith;
      ut = stands c.isutcnt c.typecnt (not-false _ b.1);
      standard = stands c.isstdcnt c.typecnt (not-false _ a.1);
      times = ltb-false _ _ (when_none (nat_lt 4096 c.timecnt) TooLarge large);
    }

pub none_counts : (c : Counts) → AreCounts c → counts_fault c ≡ None
unfolding counts_fault
none_counts c are =
    let types : c.typecnt ≢ 0 = λ e. absurd (omega (arith, are.types)) in
    let chars : c.charcnt ≢ 0 = λ e. absurd (omega (arith, are.designations)) in
    neither (when (eqb c.typecnt 0 || eqb c.charcnt 0 || not (stands_for_all c.isutcnt c.typecnt) || not (stands_for_all c.isstdcnt c.typecnt)) BadCounts)
    (when (nat_lt 4096 c.timecnt) TooLarge)
    (none_when _ BadCounts (or_from _ _ (or_from _ _ (or_from _ _ (ne_eqb c.typecnt 0 types) (ne_eqb c.charcnt 0 chars))
    (not_from_true _ (stands_back c.isutcnt c.typecnt are.ut))) (not_from_true _ (stands_back c.isstdcnt c.typecnt are.standard))))
    (none_when _ TooLarge (le-ltb _ _ are.times))

pub record IsFramed (bytes : List ℕ) : Type 0 where
  pub size : length bytes ≤ 65536
  pub first_at : HeaderAt 0 bytes
  pub version : IsVersion (version_in (first_header bytes))
  pub first_room : 44 + first_block_size (counts_in (first_header bytes)) ≤ length bytes
  pub second_at : HeaderAt (second_place bytes) bytes
  pub same : version_in (second_header bytes) ≡ version_in (first_header bytes)
  pub counts : AreCounts (counts_of bytes)
  pub second_room : block_place bytes + second_block_size (counts_of bytes) ≤ length bytes

abbrev is_no_version : ℕ → Bool
is_no_version v = not (nat_le 50 v && nat_le v 52)

pub frame_none : (bytes : List ℕ) → frame_fault bytes ≡ None → IsFramed bytes
unfolding frame_fault
frame_none bytes h =
    let a = second (when (nat_lt 65536 (length bytes)) TooLarge) _ h in
    let b = second (header_fault 0 bytes) _ a in
    let c = second (when (is_no_version (version_in (first_header bytes))) Version) _ b in
    let d = second (room_fault 44 (first_block_size (counts_in (first_header bytes))) bytes) _ c in
    let e = second (header_fault (second_place bytes) bytes) _ d in
    let f = second (when (not (version_in (second_header bytes) == version_in (first_header bytes))) Version) _ e in
    let g = second (counts_fault (counts_of bytes)) _ f in
    let version = and_parts _ _ (not-false _ (when_none (is_no_version (version_in (first_header bytes))) Version (first _ _ b))) in
    record {
      size = ltb-false _ _ (when_none (nat_lt 65536 (length bytes)) TooLarge (first _ _ h));
      first_at = header_none 0 bytes (first _ _ a);
      version = (leb-true _ _ version.0, leb-true _ _ version.1);
      first_room = room_none 44 (first_block_size (counts_in (first_header bytes))) bytes (first _ _ c);
      second_at = header_none (second_place bytes) bytes (first _ _ d);
      same = eqb-true _ _ (not-false _ (when_none (not (version_in (second_header bytes) == version_in (first_header bytes))) Version (first _ _ e)));
      counts = counts_none (counts_of bytes) (first _ _ f);
      second_room = room_none (block_place bytes) (second_block_size (counts_of bytes)) bytes g;
    }

pub none_frame : (bytes : List ℕ) → IsFramed bytes → frame_fault bytes ≡ None
unfolding frame_fault
none_frame bytes is =
    neither _ _ (none_when (nat_lt 65536 (length bytes)) TooLarge (le-ltb _ _ is.size))
    (neither _ _ (none_header 0 bytes is.first_at.room is.first_at.starts)
    (neither _ _ (none_when (is_no_version (version_in (first_header bytes))) Version
    (not_from_true _ (and_from _ _ (le-leb _ _ is.version.0) (le-leb _ _ is.version.1))))
    (neither _ _ (none_room 44 (first_block_size (counts_in (first_header bytes))) bytes is.first_room)
    (neither _ _ (none_header (second_place bytes) bytes is.second_at.room is.second_at.starts)
    (neither _ _ (none_when (not (version_in (second_header bytes) == version_in (first_header bytes))) Version (not_from_true _ (eq-eqb _ _ is.same)))
    (neither _ _ (none_counts (counts_of bytes) is.counts)
    (none_room (block_place bytes) (second_block_size (counts_of bytes)) bytes is.second_room)))))))
