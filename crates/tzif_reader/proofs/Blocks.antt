-- A block, as it is cut and as it is laid out.
use Rattle.std.proofs.Common.{◌≡◌, ℕ, suc, ◌+◌, ◌-◌, ◌*◌, ◌<◌, ◌≤◌, Bool, true, false, List, ◌++◌, length, get_or, drop, Option, Some, refl, sym, ap, subst}
use Rattle.std.proofs.Common.{◌∙◌, arith, inl, inr, ◌⊎◌}
use Rattle.std.specs.Prelude.{ℤ, pos, int_le, nat_lt, ◌<ℤ◌, ◌&&◌, ◌||◌, IfSome, slice_get}
use Rattle.std.proofs.lemmas.Bool.{ltb-false, leb-false, lt-ltb, or_parts, cases_lt}
use Rattle.std.proofs.lemmas.Int.{ints}
use Rattle.std.proofs.lemmas.Option.{slice_get-get_or, slice_get_past}
use Rattle.std.proofs.lemmas.List.{take_all, take-append-drop, length-drop}
use Rattle.std.proofs.lemmas.List.Elements.{All-from_get_or}
use Rattle.std.proofs.lemmas.List.FromFn.{length-map-range_with_len, get_or-map-range_with_len}
use Rattle.td_civil.specs.declared.moment_type.Moment.{Moment}
use Rattle.td_civil.specs.declared.moment_type.TheConstants.{HI}
use Rattle.tzif_reader.specs.declared.counts.Counts.{Counts}
use Rattle.tzif_reader.specs.Layout.{AreCounts, AreRising, IsBlock, IsKind, IsLeapLine, IsMoment, second_block_size}
use Rattle.tzif_reader.specs.Cut.{Parts, piece, items, long_at, parts_in, transition_at, flag_at, kind_at, leap_at, zone_from}
use Rattle.tzif_reader.specs.Faults.{is_unordered, is_too_late}
use Rattle.tzif_reader.specs.Views.{AreSized}
use Rattle.tzif_reader.proofs.lemmas.Joined.{cut_at, length_piece, joined_items}
use Rattle.tzif_reader.proofs.Records.{kind_is, leap_is, moment_is}
use Rattle.tzif_reader.proofs.Soundness.{AreSound}

-- ---- from the parts to the layout

pub sized : (c : Counts) (text : List ℕ) → length text ≡ second_block_size c → AreSized c (parts_in c text)
unfolding parts_in
sized c text len = record {
  times = length_piece 0 (8 * c.timecnt) text (omega arith);
  numbers = length_piece (8 * c.timecnt) c.timecnt text (omega arith);
  types = length_piece (8 * c.timecnt + c.timecnt) (6 * c.typecnt) text (omega arith);
  designations = length_piece (8 * c.timecnt + c.timecnt + 6 * c.typecnt) c.charcnt text (omega arith);
  leaps = length_piece (8 * c.timecnt + c.timecnt + 6 * c.typecnt + c.charcnt) (12 * c.leapcnt) text (omega arith);
  standard = length_piece (8 * c.timecnt + c.timecnt + 6 * c.typecnt + c.charcnt + 12 * c.leapcnt) c.isstdcnt text (omega arith);
  ut = length_piece (8 * c.timecnt + c.timecnt + 6 * c.typecnt + c.charcnt + 12 * c.leapcnt + c.isstdcnt) c.isutcnt text (omega arith);
}

abbrev pub joined_parts : Parts → List ℕ
joined_parts p = p.times ++ (p.numbers ++ (p.types ++ (p.designations ++ (p.leaps ++ (p.standard ++ p.ut)))))

onto : (a r s : List ℕ) → r ≡ s → a ++ r ≡ a ++ s
onto a r s h = ap (λ (t : List ℕ). a ++ t) h

pub parts_join : (c : Counts) (text : List ℕ) → length text ≡ second_block_size c → text ≡ joined_parts (parts_in c text)
unfolding parts_in
parts_join c text len =
    let last : drop (8 * c.timecnt + c.timecnt + 6 * c.typecnt + c.charcnt + 12 * c.leapcnt + c.isstdcnt) text ≡ piece
    (8 * c.timecnt + c.timecnt + 6 * c.typecnt + c.charcnt + 12 * c.leapcnt + c.isstdcnt) c.isutcnt text
    = sym (take_all c.isutcnt (drop (8 * c.timecnt + c.timecnt + 6 * c.typecnt + c.charcnt + 12 * c.leapcnt + c.isstdcnt) text)
    (omega (arith, length-drop (8 * c.timecnt + c.timecnt + 6 * c.typecnt + c.charcnt + 12 * c.leapcnt + c.isstdcnt) text))) in
    sym (take-append-drop (8 * c.timecnt) text) ∙ onto _ _ _
    (cut_at (8 * c.timecnt) c.timecnt text ∙ onto _ _ _
    (cut_at (8 * c.timecnt + c.timecnt) (6 * c.typecnt) text ∙ onto _ _ _
    (cut_at (8 * c.timecnt + c.timecnt + 6 * c.typecnt) c.charcnt text ∙ onto _ _ _
    (cut_at (8 * c.timecnt + c.timecnt + 6 * c.typecnt + c.charcnt) (12 * c.leapcnt) text ∙ onto _ _ _
    (cut_at (8 * c.timecnt + c.timecnt + 6 * c.typecnt + c.charcnt + 12 * c.leapcnt) c.isstdcnt text ∙ onto _ _ _ last)))))

and_second : (x y : Bool) → x ≡ true → (x && y) ≡ false → y ≡ false
and_second true y e h = h
and_second false y e h = absurd cc

lt_from_test : (a b : ℤ) → int_le a b ≡ false → b <ℤ a
lt_from_test a b h = grind (arith, ints)

pub test_from_lt : (a b : ℤ) → b <ℤ a → int_le a b ≡ false
test_from_lt a b h = grind (arith, ints)

rise : (times : List ℕ) (i : ℕ) → is_unordered times (suc i) ≡ false → long_at (8 * i) times <ℤ long_at (8 * suc i) times
rise times i h =
    let up : int_le (long_at (8 * suc i) times) (long_at (8 * (suc i - 1)) times) ≡ false =
    and_second (nat_lt 0 (suc i)) _ (lt-ltb 0 (suc i) (omega arith)) h in
    let one : suc i - 1 ≡ i = omega arith in
    lt_from_test _ _ (subst (λ (k : ℕ). int_le (long_at (8 * suc i) times) (long_at (8 * k) times) ≡ false) one up)

rising : (c : Counts) (times : List ℕ) → ((i : ℕ) → i < c.timecnt → is_unordered times i ≡ false) → AreRising (items c.timecnt (transition_at times))
rising c times ordered i d lt =
    let len = length-map-range_with_len (transition_at times) 0 c.timecnt in
    let a : get_or (items c.timecnt (transition_at times)) i d ≡ transition_at times i =
    get_or-map-range_with_len (transition_at times) 0 c.timecnt i i d (omega arith) (omega arith) in
    let b : get_or (items c.timecnt (transition_at times)) (suc i) d ≡ transition_at times (suc i) =
    get_or-map-range_with_len (transition_at times) 0 c.timecnt (suc i) (suc i) d (omega arith) (omega arith) in
    rw (a, b) (rise times i (ordered (suc i) (omega arith)))

pub nothing : Moment
nothing = record { seconds = pos 0 }

ending : (c : Counts) (times : List ℕ) (moments : List Moment) → moments ≡ items c.timecnt (transition_at times) → length moments ≡ c.timecnt
    → is_too_late c.timecnt times ≡ false → IfSome (slice_get moments (length moments - 1)) (λ m. m.seconds <ℤ HI)
ending c times moments same len early =
    elim (cases_lt 0 c.timecnt) [
      | inl lt ↦
          let late : int_le HI (long_at (8 * (c.timecnt - 1)) times) ≡ false = and_second (nat_lt 0 c.timecnt) _ (lt-ltb 0 c.timecnt lt) early in
          let at : get_or moments (length moments - 1) nothing ≡ transition_at times (c.timecnt - 1) =
          ap (λ (ms : List Moment). get_or ms (length moments - 1) nothing) same
          ∙ get_or-map-range_with_len (transition_at times) 0 c.timecnt (length moments - 1) (c.timecnt - 1) nothing (omega arith) (omega arith) in
          let some : slice_get moments (length moments - 1) ≡ Some (transition_at times (c.timecnt - 1)) =
          slice_get-get_or moments (length moments - 1) nothing (omega arith) ∙ ap (λ (m : Moment). Some m) at in
          subst (λ (o : Option Moment). IfSome o (λ m. m.seconds <ℤ HI)) (sym some) (lt_from_test _ _ late)
      | inr le ↦ subst (λ (o : Option Moment). IfSome o (λ m. m.seconds <ℤ HI)) (sym (slice_get_past moments (length moments - 1) (omega arith))) tt
    ]

-- a number that stands for all types, or for none
covered : (count types : ℕ) → (count ≡ 0) ⊎ (count ≡ types) → count ≤ types
covered count types (inl z) = omega arith
covered count types (inr e) = omega arith

pub block_is : (c : Counts) (text : List ℕ) (footer : List ℕ) → length text ≡ second_block_size c → AreCounts c → AreSound c (parts_in c text)
    → IsBlock text c (zone_from c (parts_in c text) footer)
block_is c text footer len counts sound =
    let s = sized c text len in
    let flags = λ (i : ℕ) (lt : i < c.typecnt). or_parts (nat_lt 1 (flag_at (parts_in c text).types i) || nat_lt 1 (get_or (parts_in c text).standard i 0))
    (nat_lt 1 (get_or (parts_in c text).ut i 0)) (sound.flagged i lt) in
    let more = λ (i : ℕ) (lt : i < c.typecnt). or_parts (nat_lt 1 (flag_at (parts_in c text).types i)) (nat_lt 1 (get_or (parts_in c text).standard i 0))
    (flags i lt).0 in
    let std = covered c.isstdcnt c.typecnt counts.standard in
    let ut = covered c.isutcnt c.typecnt counts.ut in
    record {
      times = (parts_in c text).times;
      types = (parts_in c text).types;
      designations = (parts_in c text).designations;
      leaps = (parts_in c text).leaps;
      standard = (parts_in c text).standard;
      ut = (parts_in c text).ut;
      whole = parts_join c text len;
      moments_are = joined_items 8 IsMoment (transition_at (parts_in c text).times) (parts_in c text).times c.timecnt s.times
          (λ i lt. moment_is (parts_in c text).times i);
      kinds_are = joined_items 6 (IsKind (parts_in c text).designations) (kind_at (parts_in c text).designations (parts_in c text).types)
          (parts_in c text).types c.typecnt s.types
          (λ i lt. kind_is (parts_in c text).designations (parts_in c text).types i (omega (arith, s.types)) (sound.are_named i lt)
          (ltb-false 1 _ (more i lt).0) (sound.within i lt));
      leaps_are = joined_items 12 IsLeapLine (leap_at (parts_in c text).leaps) (parts_in c text).leaps c.leapcnt s.leaps
          (λ i lt. leap_is (parts_in c text).leaps i (omega (arith, s.leaps)));
      moment_count = length-map-range_with_len (transition_at (parts_in c text).times) 0 c.timecnt;
      number_count = s.numbers;
      kind_count = length-map-range_with_len (kind_at (parts_in c text).designations (parts_in c text).types) 0 c.typecnt;
      designation_count = s.designations;
      leap_count = length-map-range_with_len (leap_at (parts_in c text).leaps) 0 c.leapcnt;
      standard_count = s.standard;
      ut_count = s.ut;
      rising = rising c (parts_in c text).times sound.ordered;
      known = All-from_get_or (λ n. n < c.typecnt) (parts_in c text).numbers 0 (λ i lt. leb-false c.typecnt _ (sound.known i (omega (arith, s.numbers))));
      standard_flags = All-from_get_or (λ b. b ≤ 1) (parts_in c text).standard 0 (λ i lt. ltb-false 1 _ (more i (omega (arith, s.standard, std))).1);
      ut_flags = All-from_get_or (λ b. b ≤ 1) (parts_in c text).ut 0 (λ i lt. ltb-false 1 _ (flags i (omega (arith, s.ut, ut))).1);
      ends = ending c (parts_in c text).times (items c.timecnt (transition_at (parts_in c text).times)) refl
          (length-map-range_with_len (transition_at (parts_in c text).times) 0 c.timecnt) sound.early;
    }
