-- A block, as it is laid out and as it is cut.
use Rattle.std.proofs.Common.{◌≡◌, ℕ, zero, suc, ◌+◌, ◌-◌, ◌*◌, ◌<◌, ◌≤◌, false, List, [], ◌++◌, length, All, get_or, take, drop, Option, Some, refl, sym, ap}
use Rattle.std.proofs.Common.{subst, ◌∙◌, arith, inl, inr}
use Rattle.std.specs.Prelude.{ℤ, pos, int_le, nat_lt, ◌<ℤ◌, IfSome, slice_get}
use Rattle.std.proofs.lemmas.Bool.{lt-leb, le-ltb, or_from, and_left, and_right, cases_lt}
use Rattle.std.proofs.lemmas.Option.{slice_get-get_or}
use Rattle.std.proofs.lemmas.List.{take_at, drop_at, take_all, length-append, get_or_past}
use Rattle.std.proofs.lemmas.List.Elements.{All-get_or}
use Rattle.std.proofs.lemmas.List.FromFn.{fill_by_all}
use Rattle.td_civil.specs.declared.local_time.Local.{Local}
use Rattle.td_civil.specs.declared.moment_type.Moment.{Moment}
use Rattle.td_civil.specs.declared.moment_type.TheConstants.{HI}
use Rattle.tzif_reader.specs.declared.counts.Counts.{Counts}
use Rattle.tzif_reader.specs.declared.zone_file.LeapLine.{LeapLine}
use Rattle.tzif_reader.specs.declared.zone_file.ZoneFile.{ZoneFile}
use Rattle.tzif_reader.specs.Layout.{IsBlock, IsKind, IsLeapLine, IsMoment, second_block_size}
use Rattle.tzif_reader.specs.Cut.{Parts, piece, items, long_at, parts_in, transition_at, flag_at, kind_at, leap_at, zone_from}
use Rattle.tzif_reader.specs.Faults.{is_unordered, is_too_late}
use Rattle.tzif_reader.specs.Views.{AreSized}
use Rattle.tzif_reader.proofs.lemmas.Joined.{field, joined_length, joined_at}
use Rattle.tzif_reader.proofs.Records.{CutsKind, kind_cuts, leap_cuts, moment_cuts}
use Rattle.tzif_reader.proofs.Soundness.{AreSound}
use Rattle.tzif_reader.proofs.Blocks.{joined_parts, nothing, test_from_lt}

-- the parts that a layout names
abbrev pub laid : (text : List ℕ) (c : Counts) (z : ZoneFile) → IsBlock text c z → Parts
laid text c z is = record {
  times = is.times;
  numbers = z.numbers;
  types = is.types;
  designations = is.designations;
  leaps = is.leaps;
  standard = is.standard;
  ut = is.ut;
}

same_parts : (c : Counts) (text times numbers types designations leaps standard ut : List ℕ) → piece 0 (8 * c.timecnt) text ≡ times
    → piece (8 * c.timecnt) c.timecnt text ≡ numbers → piece (8 * c.timecnt + c.timecnt) (6 * c.typecnt) text ≡ types
    → piece (8 * c.timecnt + c.timecnt + 6 * c.typecnt) c.charcnt text ≡ designations
    → piece (8 * c.timecnt + c.timecnt + 6 * c.typecnt + c.charcnt) (12 * c.leapcnt) text ≡ leaps
    → piece (8 * c.timecnt + c.timecnt + 6 * c.typecnt + c.charcnt + 12 * c.leapcnt) c.isstdcnt text ≡ standard
    → piece (8 * c.timecnt + c.timecnt + 6 * c.typecnt + c.charcnt + 12 * c.leapcnt + c.isstdcnt) c.isutcnt text ≡ ut
    → parts_in c text ≡ record { times = times; numbers = numbers; types = types; designations = designations; leaps = leaps; standard = standard; ut = ut }
unfolding parts_in
same_parts c text times numbers types designations leaps standard ut e0 e1 e2 e3 e4 e5 e6 = cc

lengths_8 : (text : List ℕ) (c : Counts) (z : ZoneFile) (is : IsBlock text c z) → length is.times ≡ 8 * c.timecnt
lengths_8 text c z is = joined_length 8 IsMoment is.times z.moments is.moments_are ∙ ap (λ (n : ℕ). 8 * n) is.moment_count

lengths_6 : (text : List ℕ) (c : Counts) (z : ZoneFile) (is : IsBlock text c z) → length is.types ≡ 6 * c.typecnt
lengths_6 text c z is = joined_length 6 (IsKind is.designations) is.types z.kinds is.kinds_are ∙ ap (λ (n : ℕ). 6 * n) is.kind_count

lengths_12 : (text : List ℕ) (c : Counts) (z : ZoneFile) (is : IsBlock text c z) → length is.leaps ≡ 12 * c.leapcnt
lengths_12 text c z is = joined_length 12 IsLeapLine is.leaps z.leaps is.leaps_are ∙ ap (λ (n : ℕ). 12 * n) is.leap_count

-- parts that are joined, and have the lengths that the counts give, are what is cut
pub parts_laid : (c : Counts) (text : List ℕ) (p : Parts) → text ≡ joined_parts p → AreSized c p → parts_in c text ≡ p
parts_laid c text p whole s =
    let r0 : drop (8 * c.timecnt) text ≡ p.numbers ++ (p.types ++ (p.designations ++ (p.leaps ++ (p.standard ++ p.ut)))) =
    ap (drop (8 * c.timecnt)) whole ∙ drop_at p.times _ (8 * c.timecnt) s.times in
    let f1 = field text p.numbers (p.types ++ (p.designations ++ (p.leaps ++ (p.standard ++ p.ut)))) (8 * c.timecnt) c.timecnt r0 s.numbers in
    let f2 = field text p.types (p.designations ++ (p.leaps ++ (p.standard ++ p.ut))) (8 * c.timecnt + c.timecnt) (6 * c.typecnt) f1.1 s.types in
    let f3 = field text p.designations (p.leaps ++ (p.standard ++ p.ut)) (8 * c.timecnt + c.timecnt + 6 * c.typecnt) c.charcnt f2.1 s.designations in
    let f4 = field text p.leaps (p.standard ++ p.ut) (8 * c.timecnt + c.timecnt + 6 * c.typecnt + c.charcnt) (12 * c.leapcnt) f3.1 s.leaps in
    let f5 = field text p.standard p.ut (8 * c.timecnt + c.timecnt + 6 * c.typecnt + c.charcnt + 12 * c.leapcnt) c.isstdcnt f4.1 s.standard in
    same_parts c text p.times p.numbers p.types p.designations p.leaps p.standard p.ut
    (ap (take (8 * c.timecnt)) whole ∙ take_at p.times _ (8 * c.timecnt) s.times) f1.0 f2.0 f3.0 f4.0 f5.0
    (ap (take c.isutcnt) f5.1 ∙ take_all c.isutcnt p.ut (omega (arith, s.ut)))

pub parts_size : (c : Counts) (text : List ℕ) (p : Parts) → text ≡ joined_parts p → AreSized c p → length text ≡ second_block_size c
parts_size c text p whole s =
    omega (
      arith,
      ap length whole,
      length-append p.times (p.numbers ++ (p.types ++ (p.designations ++ (p.leaps ++ (p.standard ++ p.ut))))),
      length-append p.numbers (p.types ++ (p.designations ++ (p.leaps ++ (p.standard ++ p.ut)))),
      length-append p.types (p.designations ++ (p.leaps ++ (p.standard ++ p.ut))),
      length-append p.designations (p.leaps ++ (p.standard ++ p.ut)),
      length-append p.leaps (p.standard ++ p.ut),
      length-append p.standard p.ut,
      s.times,
      s.numbers,
      s.types,
      s.designations,
      s.leaps,
      s.standard,
      s.ut,
    )

laid_sized : (text : List ℕ) (c : Counts) (z : ZoneFile) (is : IsBlock text c z) → AreSized c (laid text c z is)
laid_sized text c z is = record {
  times = lengths_8 text c z is;
  numbers = is.number_count;
  types = lengths_6 text c z is;
  designations = is.designation_count;
  leaps = lengths_12 text c z is;
  standard = is.standard_count;
  ut = is.ut_count;
}

pub laid_parts : (text : List ℕ) (c : Counts) (z : ZoneFile) (is : IsBlock text c z) → parts_in c text ≡ laid text c z is
laid_parts text c z is = parts_laid c text (laid text c z is) is.whole (laid_sized text c z is)

pub laid_size : (text : List ℕ) (c : Counts) (z : ZoneFile) → IsBlock text c z → length text ≡ second_block_size c
laid_size text c z is = parts_size c text (laid text c z is) is.whole (laid_sized text c z is)

-- ---- the items

pub some_local : Local
some_local = record { offset = pos 0; dst = false; name = [] }

pub some_line : LeapLine
some_line = record { at = pos 0; correction = pos 0 }

moment_here : (text : List ℕ) (c : Counts) (z : ZoneFile) (is : IsBlock text c z) (i : ℕ) (d : Moment) → i < c.timecnt
    → get_or z.moments i d ≡ transition_at is.times i
moment_here text c z is i d lt = moment_cuts is.times i (get_or z.moments i d)
    (joined_at 8 IsMoment is.times z.moments i d is.moments_are (omega (arith, is.moment_count)))

kind_here : (text : List ℕ) (c : Counts) (z : ZoneFile) (is : IsBlock text c z) (i : ℕ) (d : Local) → i < c.typecnt
    → CutsKind is.designations is.types i (get_or z.kinds i d)
kind_here text c z is i d lt = kind_cuts is.designations is.types i (get_or z.kinds i d)
    (joined_at 6 (IsKind is.designations) is.types z.kinds i d is.kinds_are (omega (arith, is.kind_count)))

leap_here : (text : List ℕ) (c : Counts) (z : ZoneFile) (is : IsBlock text c z) (i : ℕ) (d : LeapLine) → i < c.leapcnt → get_or z.leaps i d ≡ leap_at is.leaps i
leap_here text c z is i d lt = leap_cuts is.leaps i (get_or z.leaps i d)
    (joined_at 12 IsLeapLine is.leaps z.leaps i d is.leaps_are (omega (arith, is.leap_count)))

same_zone : (z : ZoneFile) (m : List Moment) (k : List Local) (l : List LeapLine) → z.moments ≡ m → z.kinds ≡ k → z.leaps ≡ l
    → z ≡ record { moments = m; numbers = z.numbers; kinds = k; leaps = l; footer = z.footer }
same_zone z m k l a b c = rw (← a, ← b, ← c) refl

laid_zone : (text : List ℕ) (c : Counts) (z : ZoneFile) (is : IsBlock text c z) → z ≡ zone_from c (laid text c z is) z.footer
laid_zone text c z is =
    same_zone z (items c.timecnt (transition_at is.times)) (items c.typecnt (kind_at is.designations is.types)) (items c.leapcnt (leap_at is.leaps))
    (fill_by_all (transition_at is.times) z.moments c.timecnt nothing is.moment_count (λ k lt. moment_here text c z is k nothing lt))
    (fill_by_all (kind_at is.designations is.types) z.kinds c.typecnt some_local is.kind_count (λ k lt. (kind_here text c z is k some_local lt).kind_is))
    (fill_by_all (leap_at is.leaps) z.leaps c.leapcnt some_line is.leap_count (λ k lt. leap_here text c z is k some_line lt))

pub block_zone : (text : List ℕ) (c : Counts) (z : ZoneFile) → IsBlock text c z → z ≡ zone_from c (parts_in c text) z.footer
block_zone text c z is = laid_zone text c z is ∙ ap (λ (p : Parts). zone_from c p z.footer) (sym (laid_parts text c z is))

-- ---- no faults

seconds_here : (text : List ℕ) (c : Counts) (z : ZoneFile) (is : IsBlock text c z) (i : ℕ) → i < c.timecnt
    → (get_or z.moments i nothing).seconds ≡ long_at (8 * i) is.times
seconds_here text c z is i lt = ap (λ (m : Moment). m.seconds) (moment_here text c z is i nothing lt)

laid_order : (text : List ℕ) (c : Counts) (z : ZoneFile) (is : IsBlock text c z) (i : ℕ) → i < c.timecnt → is_unordered is.times i ≡ false
laid_order text c z is zero lt = and_left (nat_lt 0 0) (int_le (long_at (8 * 0) is.times) (long_at (8 * (0 - 1)) is.times)) (le-ltb 0 0 (omega arith))
laid_order text c z is (suc i) lt =
    let one : i ≡ suc i - 1 = omega arith in
    let low = seconds_here text c z is i (omega arith) in
    let high = seconds_here text c z is (suc i) lt in
    let rise : (get_or z.moments i nothing).seconds <ℤ (get_or z.moments (suc i) nothing).seconds = is.rising i nothing (omega (arith, is.moment_count)) in
    let up : long_at (8 * i) is.times <ℤ long_at (8 * suc i) is.times =
    subst (λ (s : ℤ). s <ℤ long_at (8 * suc i) is.times) low (subst (λ (s : ℤ). (get_or z.moments i nothing).seconds <ℤ s) high rise) in
    and_right _ _ (subst (λ (k : ℕ). int_le (long_at (8 * suc i) is.times) (long_at (8 * k) is.times) ≡ false) one (test_from_lt _ _ up))

-- a flag of a list of flags, where there is one
low_flag : (flags : List ℕ) (i : ℕ) → All (λ b. b ≤ 1) flags → nat_lt 1 (get_or flags i 0) ≡ false
low_flag flags i all =
    elim (cases_lt i (length flags)) [
      | inl lt ↦ le-ltb 1 (get_or flags i 0) (All-get_or (λ b. b ≤ 1) flags i 0 lt all)
      | inr le ↦ rw (get_or_past flags i 0 le) refl
    ]

laid_early : (text : List ℕ) (c : Counts) (z : ZoneFile) (is : IsBlock text c z) → is_too_late c.timecnt is.times ≡ false
laid_early text c z is =
    elim (cases_lt 0 c.timecnt) [
      | inl lt ↦
          let last : slice_get z.moments (length z.moments - 1) ≡ Some (get_or z.moments (length z.moments - 1) nothing) =
          slice_get-get_or z.moments (length z.moments - 1) nothing (omega (arith, is.moment_count)) in
          let before : (get_or z.moments (length z.moments - 1) nothing).seconds <ℤ HI =
          subst (λ (o : Option Moment). IfSome o (λ m. m.seconds <ℤ HI)) last is.ends in
          let place : length z.moments - 1 ≡ c.timecnt - 1 = omega (arith, is.moment_count) in
          let here = seconds_here text c z is (c.timecnt - 1) (omega arith) in
          let early : long_at (8 * (c.timecnt - 1)) is.times <ℤ HI =
          subst (λ (s : ℤ). s <ℤ HI) here (subst (λ (k : ℕ). (get_or z.moments k nothing).seconds <ℤ HI) place before) in
          and_right _ _ (test_from_lt _ _ early)
      | inr le ↦ and_left _ _ (le-ltb 0 c.timecnt le)
    ]

laid_sound : (text : List ℕ) (c : Counts) (z : ZoneFile) (is : IsBlock text c z) → AreSound c (laid text c z is)
laid_sound text c z is = record {
  ordered = laid_order text c z is;
  known = λ i lt. lt-leb c.typecnt (get_or z.numbers i 0) (All-get_or (λ n. n < c.typecnt) z.numbers i 0 (omega (arith, is.number_count)) is.known);
  are_named = λ i lt. (kind_here text c z is i some_local lt).is_named;
  flagged = λ i lt. or_from _ _ (or_from _ _ (le-ltb 1 (flag_at is.types i) (kind_here text c z is i some_local lt).flag)
      (low_flag is.standard i is.standard_flags)) (low_flag is.ut i is.ut_flags);
  within = λ i lt. (kind_here text c z is i some_local lt).within;
  early = laid_early text c z is;
}

pub block_sound : (text : List ℕ) (c : Counts) (z : ZoneFile) → IsBlock text c z → AreSound c (parts_in c text)
block_sound text c z is = subst (λ (p : Parts). AreSound c p) (sym (laid_parts text c z is)) (laid_sound text c z is)
