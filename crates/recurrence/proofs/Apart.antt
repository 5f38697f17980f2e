-- Two dates that are apart in a year without 29 February and in one with it are apart in every
-- year.
use Rattle.std.proofs.Common.{◌≡◌, ◌↔◌, ℕ, ◌+◌, ◌≤◌, true, inl, inr, arith, ℤ, pos, ◌+ℤ◌, ◌≤ℤ◌}
use Rattle.std.proofs.lemmas.Bool.{and_from, or_left, or_right}
use Rattle.jiff_core.specs.Calendar.{IsYear}
use Rattle.jiff_core.proofs.SignedLemmas.{signed_arith}
use Rattle.posix_footer.specs.declared.rule_types.Date.{Date}
use Rattle.posix_footer.specs.Carried.{moved_by, moved_first, moved_last, is_steady, is_sooner_date, date_comes_before, are_apart}
use Rattle.posix_footer.specs.Onset.{more_places}
use Rattle.posix_footer.specs.Lawful.{IsLawfulDate}
use Rattle.recurrence.specs.RuleOfDate.{row_place}
use Rattle.recurrence.specs.SameDates.{AreApart}
use Rattle.recurrence.proofs.Carrying.{moved_is}
use Rattle.recurrence.proofs.lemmas.InYear.{Gap, places_apart, gap_is}
use Rattle.recurrence.proofs.Months.{leap_2001, leap_2004}
use Rattle.recurrence.proofs.Rows.{Keeps}
use Rattle.recurrence.proofs.SameDates.{most_true}
use Rattle.recurrence.proofs.Steady.{steady_is}

from_gap : (a b : Date) (y : ℤ) → IsLawfulDate a → IsLawfulDate b → is_steady a ≡ true → is_steady b ≡ true → Gap a b
    → (moved_last a y +ℤ pos 3) ≤ℤ moved_first b y
from_gap a b y ha hb ea eb gap =
    let p = moved_is a y ha.day (steady_is a ea) in
    let q = moved_is b y hb.day (steady_is b eb) in
    let apart = places_apart y (row_place a.day (moved_by a.time)) (row_place b.day (moved_by b.time)) p.place q.place
    (more_places a.day) (more_places b.day) p.keeps q.keeps (omega (arith, signed_arith, p.common, q.common, gap)) in
    omega (arith, signed_arith, apart, p.is, q.is)

-- a place moves by a day at most between the two years
near : (common p q more : ℕ) → Keeps (pos 2001) common p more → Keeps (pos 2004) common q more → (p ≤ q) × (q ≤ p + 1)
near common p q more (inl x) (inl z) = (omega arith, omega arith)
near common p q more (inl x) (inr z) = absurd (omega arith)
near common p q more (inr x) (inl z) = absurd (omega arith)
near common p q more (inr x) (inr z) = (omega (arith, leap_2001, leap_2004), omega (arith, leap_2001, leap_2004))

near_date : (a : Date) → IsLawfulDate a → is_steady a ≡ true
    → (moved_first a (pos 2001) ≤ℤ moved_first a (pos 2004)) × (moved_first a (pos 2004) ≤ℤ (moved_first a (pos 2001) +ℤ pos 1))
near_date a h e =
    let p = moved_is a (pos 2001) h.day (steady_is a e) in
    let q = moved_is a (pos 2004) h.day (steady_is a e) in
    let by_a_day = near (row_place a.day (moved_by a.time)) p.place q.place (more_places a.day) p.keeps q.keeps in
    (omega (arith, signed_arith, by_a_day, p.is, q.is), omega (arith, signed_arith, by_a_day, p.is, q.is))

in_both : (a b : Date) → (moved_last a (pos 2001) +ℤ pos 3) ≤ℤ moved_first b (pos 2001)
    → (moved_last a (pos 2004) +ℤ pos 3) ≤ℤ moved_first b (pos 2004) → date_comes_before a b ≡ true
unfolding date_comes_before
in_both a b common leap =
    and_from (is_sooner_date a b (pos 2001)) (is_sooner_date a b (pos 2004))
    (most_true (moved_last a (pos 2001) +ℤ pos 3) (moved_first b (pos 2001)) common)
    (most_true (moved_last a (pos 2004) +ℤ pos 3) (moved_first b (pos 2004)) leap)

-- so one of them comes first in both
one_order : (a b : Date) → IsLawfulDate a → IsLawfulDate b → is_steady a ≡ true → is_steady b ≡ true
    → AreApart a b (pos 2001) → AreApart a b (pos 2004) → are_apart a b ≡ true
unfolding are_apart
one_order a b ha hb ea eb (inl common) (inl leap) = or_left (date_comes_before a b) (date_comes_before b a) (in_both a b common leap)
one_order a b ha hb ea eb (inl common) (inr leap) =
    absurd (omega (arith, signed_arith, common, leap, near_date a ha ea, near_date b hb eb))
one_order a b ha hb ea eb (inr common) (inl leap) =
    absurd (omega (arith, signed_arith, common, leap, near_date a ha ea, near_date b hb eb))
one_order a b ha hb ea eb (inr common) (inr leap) = or_right (date_comes_before a b) (date_comes_before b a) (in_both b a common leap)

pub apart_in_each_year : (a b : Date) → IsLawfulDate a → IsLawfulDate b → is_steady a ≡ true → is_steady b ≡ true
    → (are_apart a b ≡ true) ↔ ((y : ℤ) → IsYear y → AreApart a b y)
apart_in_each_year a b ha hb ea eb = (
  λ e y year. elim (gap_is a b e) [
    | inl gap ↦ inl (from_gap a b y ha hb ea eb gap)
    | inr gap ↦ inr (from_gap b a y hb ha eb ea gap)
  ],
  λ each. one_order a b ha hb ea eb (each (pos 2001) (omega (arith, signed_arith), omega (arith, signed_arith)))
      (each (pos 2004) (omega (arith, signed_arith), omega (arith, signed_arith))),
)
