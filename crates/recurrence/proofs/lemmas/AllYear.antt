-- Where daylight saving time goes from 1 January to 31 December, it always holds.
use Rattle.std.proofs.Common.{◌≡◌, ◌+◌, true, true≢false, refl, sym, subst, arith, ℤ, pos, neg_ℤ, ◌+ℤ◌, ◌-ℤ◌, ◌*ℤ◌, ◌≤ℤ◌, ◌<ℤ◌, Some}
use Rattle.std.specs.Ordering.{int_eq}
use Rattle.std.proofs.lemmas.Bool.{and_parts, eqb-true}
use Rattle.std.proofs.lemmas.Bool.Decides.{nat_tests}
use Rattle.std.proofs.lemmas.Int.{by_lt_z, ints}
use Rattle.jiff_core.specs.Calendar.{days_from_civil, IsBetween}
use Rattle.jiff_core.proofs.SignedLemmas.{signed_arith}
use Rattle.jiff_core.proofs.MarchLemmas.{leap_day, days_in_year-leap_day, day_count-early}
use Rattle.jiff_core.proofs.CalendarLemmas.{days_from_civil-day_count, day_count-next_year, day_count-later_year, day_count-end}
use Rattle.td_civil.specs.Bounds.{HasMeaning}
use Rattle.td_civil.specs.declared.local_time.Local.{Local}
use Rattle.posix_footer.specs.declared.rule_types.DayForm.{DayForm}
use Rattle.posix_footer.specs.declared.rule_types.DayForm.TheVariants as day
use Rattle.posix_footer.specs.declared.rule_types.Date.{Date}
use Rattle.posix_footer.specs.declared.rule_types.Edge.{Edge}
use Rattle.posix_footer.specs.declared.rule_types.Edge.TheVariants as edge
use Rattle.posix_footer.specs.declared.rule_types.DstRule.{DstRule}
use Rattle.posix_footer.specs.Lawful.{IsLawfulRule}
use Rattle.posix_footer.specs.Onset.{day_number, moment_on, onset_of, days_before}
use Rattle.posix_footer.specs.StateAt.{IsLastChange, state_by}
use Rattle.posix_footer.proofs.lemmas.ChangeLemmas.{daylight_after_start}
use Rattle.posix_footer.specs.Carried.{is_year_start, is_year_end, starts_year, ends_year, is_all_year}
use Rattle.td_civil.proofs.lemmas.Years.{some_year_lem}

-- when the year y begins by the clocks of standard time
abbrev begin_of : ℤ → ℤ → ℤ
begin_of std y = (days_from_civil y 1 1 *ℤ pos 86400) -ℤ std

start_day : (d : DayForm) (y : ℤ) → is_year_start d ≡ true → day_number d y ≡ days_from_civil y 1 1
start_day (day.Julian n) y e =
    let one : n ≡ 1 = eqb-true n 1 e in
    let none : days_before y n ≡ 0 = grind (arith, nat_tests) in
    omega (arith, signed_arith, none)
start_day (day.YearDay n) y e = let none : n ≡ 0 = eqb-true n 0 e in omega (arith, signed_arith, none)
start_day (day.Week m week w) y e = absurd (true≢false (sym e))

end_day : (d : DayForm) (y : ℤ) → neg_ℤ (pos 10000) ≤ℤ y → is_year_end d ≡ true → day_number d y +ℤ pos 1 ≡ days_from_civil (y +ℤ pos 1) 1 1
end_day (day.Julian n) y low e =
    let last : n ≡ 365 = eqb-true n 365 e in
    let before : days_before y n ≡ 364 + leap_day y = grind (arith, nat_tests) in
    omega (arith, signed_arith, before, days_from_civil-day_count, day_count-next_year y (y +ℤ pos 1) low refl, days_in_year-leap_day y)
end_day (day.YearDay n) y low e = absurd (true≢false (sym e))
end_day (day.Week m week w) y low e = absurd (true≢false (sym e))

same_is : (a b : ℤ) → int_eq a b ≡ true → a ≡ b
same_is a b e = grind (arith, ints)

start_is : (date : Date) (std y : ℤ) → starts_year date ≡ true → moment_on date std y ≡ begin_of std y
unfolding starts_year
start_is date std y e =
    let parts = and_parts (is_year_start date.day) (int_eq date.time (pos 0)) e in
    let first = start_day date.day y parts.0 in
    let time = same_is date.time (pos 0) parts.1 in
    omega (arith, signed_arith, first, time)

end_is : (date : Date) (std dst y : ℤ) → neg_ℤ (pos 10000) ≤ℤ y → ends_year date ((pos 86400 +ℤ dst) -ℤ std) ≡ true
    → moment_on date dst y ≡ begin_of std (y +ℤ pos 1)
unfolding ends_year
end_is date std dst y low e =
    let parts = and_parts (is_year_end date.day) (int_eq date.time ((pos 86400 +ℤ dst) -ℤ std)) e in
    let last = end_day date.day y low parts.0 in
    let time = same_is date.time ((pos 86400 +ℤ dst) -ℤ std) parts.1 in
    omega (arith, signed_arith, last, time)

begins_rise : (std y later : ℤ) → neg_ℤ (pos 9999) ≤ℤ y → y ≤ℤ later → begin_of std y ≤ℤ begin_of std later
begins_rise std y later low le =
    by_lt_z y later
    (λ lt. omega (arith, signed_arith, days_from_civil-day_count, day_count-later_year y later (omega (arith, signed_arith)) lt))
    (λ ge. let same : y ≡ later = omega (arith, signed_arith) in
    let P : ℤ → Type 0 = λ k. begin_of std y ≤ℤ begin_of std k in subst P same (omega (arith, signed_arith)))

-- a year that begins by t is not after the one in which t lies
not_later : (std y other t : ℤ) → neg_ℤ (pos 9999) ≤ℤ y → t <ℤ begin_of std (y +ℤ pos 1) → begin_of std other ≤ℤ t → other ≤ℤ y
not_later std y other t low before begun =
    by_lt_z y other
    (λ lt. let rise = begins_rise std (y +ℤ pos 1) other (omega (arith, signed_arith)) (omega (arith, signed_arith)) in absurd
    (omega (arith, signed_arith, rise, before, begun)))
    (λ le. le)

start_no_end : edge.Start ≡ edge.End → ⊥
start_no_end e = cc

all_year_last : (rule : DstRule) (std t y : ℤ) → is_all_year std rule ≡ true → IsBetween (pos 1798) (pos 9999) y → begin_of std y ≤ℤ t
    → t <ℤ begin_of std (y +ℤ pos 1) → IsLastChange rule std t edge.Start
unfolding is_all_year
all_year_last rule std t y e year begun before =
    let parts = and_parts (starts_year rule.start) (ends_year rule.end ((pos 86400 +ℤ rule.dst.offset) -ℤ std)) e in
    let start : (k : ℤ) → onset_of rule std k edge.Start ≡ begin_of std k = λ k. start_is rule.start std k parts.0 in
    let end : (k : ℤ) → neg_ℤ (pos 10000) ≤ℤ k
    → onset_of rule std k edge.End ≡ begin_of std (k +ℤ pos 1) = λ k low. end_is rule.end std rule.dst.offset k low parts.1 in
    let no_later : (other : ℤ) (at : Edge) → IsBetween (pos 1798) (pos 9999) other → onset_of rule std other at ≤ℤ t
    → onset_of rule std other at ≤ℤ begin_of std y =
    λ other at. elim at as (λ a. IsBetween (pos 1798) (pos 9999) other → onset_of rule std other a ≤ℤ t → onset_of rule std other a ≤ℤ begin_of std y) [
      | edge.Start ↦ λ there by_t.
          let is = start other in
          let least = not_later std y other t (omega (arith, signed_arith)) before (omega (arith, signed_arith, is, by_t)) in
          let rise = begins_rise std other y (omega (arith, signed_arith)) least in
          omega (arith, signed_arith, is, rise)
      | edge.End ↦ λ there by_t.
          let is = end other (omega (arith, signed_arith)) in
          let least = not_later std y (other +ℤ pos 1) t (omega (arith, signed_arith)) before (omega (arith, signed_arith, is, by_t)) in
          let rise = begins_rise std (other +ℤ pos 1) y (omega (arith, signed_arith)) least in
          omega (arith, signed_arith, is, rise)
    ] in
    record {
      year = y;
      year_in = year;
      begun = (let is = start y in omega (arith, signed_arith, is, begun));
      last = λ other at there by_t. let is = start y in let least = no_later other at there by_t in omega (arith, signed_arith, is, least);
      start_counts = λ same. absurd (start_no_end same);
    }

year_1799 : days_from_civil (pos 1799) 1 1 ≡ neg_ℤ (pos 62456)
year_1799 = omega (arith, signed_arith, days_from_civil-day_count, day_count-early (pos 1799) 11798 1 1 refl (omega arith) (omega arith) (omega arith))

year_10000 : days_from_civil (pos 10000) 1 1 ≡ pos 2932897
year_10000 = omega (arith, signed_arith, days_from_civil-day_count, day_count-end)

pub year_9999 : days_from_civil (pos 9999) 1 1 ≡ pos 2932532
year_9999 = omega (arith, signed_arith, days_from_civil-day_count, day_count-early (pos 9999) 19998 1 1 refl (omega arith) (omega arith) (omega arith))

-- so the state is the daylight one at each moment that has a meaning
pub all_year_daylight : (std : Local) (rule : DstRule) (t : ℤ) → IsLawfulRule std.offset rule → is_all_year std.offset rule ≡ true → HasMeaning t
    → state_by std (Some rule) t ≡ rule.dst
all_year_daylight std rule t h e range =
    let first : neg_ℤ (pos 5364662400) ≤ℤ t = range.0 in
    let last : t <ℤ pos 253370764800 = range.1 in
    let low = h.offset.0 in
    let high = h.offset.1 in
    let sum : pos 1799 +ℤ pos 8201 ≡ pos 10000 = omega (arith, signed_arith) in
    let P : ℤ → Type 0 = λ k. (t +ℤ std.offset) <ℤ (days_from_civil k 1 1 *ℤ pos 86400) in
    let found = some_year_lem 8201 (pos 1799) (t +ℤ std.offset) (omega (arith, signed_arith, year_1799, low, high, first))
    (subst P (sym sum) (omega (arith, signed_arith, year_10000, low, high, last))) in
    let y = found.0 in
    let from = found.1.0 in
    let to = found.1.1 in
    let begins = found.1.2.0 in
    let ends = found.1.2.1 in
    let is = all_year_last rule std.offset t y e (omega (arith, signed_arith, from), omega (arith, signed_arith, sum, to))
    (omega (arith, signed_arith, begins)) (omega (arith, signed_arith, ends)) in
    let yes = daylight_after_start rule std.offset t is in
    rw yes refl
