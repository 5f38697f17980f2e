-- How the onsets of different years lie to one another, and to a moment.
use Rattle.std.proofs.Common.{◌≡◌, arith, ℤ, pos, ◌+ℤ◌, ◌*ℤ◌, ◌<ℤ◌, ◌≤ℤ◌}
use Rattle.std.proofs.lemmas.Int.{by_lt_z}
use Rattle.jiff_core.specs.Calendar.{days_from_civil, IsBetween, IsCivilDate, IsYear}
use Rattle.jiff_core.proofs.SignedLemmas.{signed_arith}
use Rattle.jiff_core.proofs.CalendarLemmas.{days_from_civil-day_count, day_count-later_year, day_count-day_of_year, day_of_year_bound}
use Rattle.td_civil.proofs.lemmas.Years.{year_is_long}
use Rattle.posix_footer.specs.declared.rule_types.DayForm.{DayForm}
use Rattle.posix_footer.specs.declared.rule_types.DayForm.TheVariants as day
use Rattle.posix_footer.specs.declared.rule_types.Edge.{Edge}
use Rattle.posix_footer.specs.declared.rule_types.Edge.TheVariants as edge
use Rattle.posix_footer.specs.declared.rule_types.Date.{Date}
use Rattle.posix_footer.specs.declared.rule_types.DstRule.{DstRule}
use Rattle.posix_footer.specs.Lawful.{IsLawfulDay, IsLawfulDate, IsLawfulOffset, IsLawfulRule}
use Rattle.posix_footer.specs.Onset.{month_day, day_number, moment_on, onset_of}
use Rattle.posix_footer.specs.StateAt.{IsLatest}
use Rattle.posix_footer.proofs.lemmas.OnsetLemmas.{days_before_bounds, month_day_within, day_number_within}

-- a year whose onsets count is one that the calendar has
pub year_of : (y : ℤ) → IsBetween (pos 1798) (pos 9999) y → IsYear y
year_of y h = omega (arith, signed_arith)

-- a form's day comes later in a later year
pub day_number_rises : (form : DayForm) (y later : ℤ) → IsLawfulDay form → IsYear y → IsYear later → y <ℤ later → day_number form y <ℤ day_number form later
day_number_rises (day.Julian n) y later h year there lt =
    omega (arith, signed_arith, days_before_bounds y n, days_before_bounds later n, year_is_long y later year lt)
day_number_rises (day.YearDay n) y later h year there lt = omega (arith, signed_arith, year_is_long y later year lt)
day_number_rises (day.Week m week w) y later h year there lt =
    let d = month_day_within y m week w h.2 h.4 in
    let civil : IsCivilDate y m (month_day y m week w) = (year, (h.0, h.1), d) in
    let after = (day_number_within (day.Week m week w) later h there).0 in
    let next = day_count-later_year y later (omega (arith, signed_arith)) lt in
    omega (
      arith,
      signed_arith,
      days_from_civil-day_count,
      day_count-day_of_year y m (month_day y m week w) d.0,
      day_of_year_bound y m (month_day y m week w)
          civil,
    )

-- a date's moment lies less than eight days before its year, and less than nine after it
pub moment_on_within : (date : Date) (offset y : ℤ) → IsLawfulDate date → IsLawfulOffset offset → IsYear y
    → ((days_from_civil y 1 1 *ℤ pos 86400) ≤ℤ (moment_on date offset y +ℤ pos 691198))
    × (moment_on date offset y ≤ℤ ((days_from_civil y 1 1 *ℤ pos 86400) +ℤ pos 32227198))
moment_on_within date offset y h o year =
    let day = day_number_within date.day y h.day year in
    let time = h.time in
    omega (arith, signed_arith)

pub moment_on_rises : (date : Date) (offset y later : ℤ) → IsLawfulDate date → IsYear y → IsYear later → y <ℤ later
    → moment_on date offset y <ℤ moment_on date offset later
moment_on_rises date offset y later h year there lt =
    let day = day_number_rises date.day y later h.day year there lt in
    omega (arith, signed_arith)

-- an edge comes later in a later year
pub onset_rises : (rule : DstRule) (std y later : ℤ) (at : Edge) → IsLawfulRule std rule → IsYear y → IsYear later → y <ℤ later
    → onset_of rule std y at <ℤ onset_of rule std later at
onset_rises rule std y later edge.Start h year there lt = moment_on_rises rule.start std y later h.start year there lt
onset_rises rule std y later edge.End h year there lt = moment_on_rises rule.end rule.dst.offset y later h.end year there lt

pub onset_within : (rule : DstRule) (std y : ℤ) (at : Edge) → IsLawfulRule std rule → IsYear y
    → ((days_from_civil y 1 1 *ℤ pos 86400) ≤ℤ (onset_of rule std y at +ℤ pos 691198))
    × (onset_of rule std y at ≤ℤ ((days_from_civil y 1 1 *ℤ pos 86400) +ℤ pos 32227198))
onset_within rule std y edge.Start h year = moment_on_within rule.start std y h.start h.offset year
onset_within rule std y edge.End h year = moment_on_within rule.end rule.dst.offset y h.end h.daylight_offset year

-- from two years after a moment's year on each onset comes after the moment
pub onset_after : (rule : DstRule) (std y next later t : ℤ) (at : Edge) → IsLawfulRule std rule → IsYear next → IsYear later → next ≡ y +ℤ pos 1
    → next <ℤ later → t <ℤ (days_from_civil next 1 1 *ℤ pos 86400) → t <ℤ onset_of rule std later at
onset_after rule std y next later t at h year there is lt before =
    let long = year_is_long next later year lt in
    let near = onset_within rule std later at h there in
    omega (arith, signed_arith)

-- and up to two years before it none does
pub onset_before : (rule : DstRule) (std y before t : ℤ) (at : Edge) → IsLawfulRule std rule → IsYear y → IsYear before → (before +ℤ pos 2) ≤ℤ y
    → (days_from_civil y 1 1 *ℤ pos 86400) ≤ℤ t → onset_of rule std before at ≤ℤ t
onset_before rule std y before t at h year there le begun =
    let first = year_is_long before (before +ℤ pos 1) there (omega (arith, signed_arith)) in
    let second = year_is_long (before +ℤ pos 1) y (omega (arith, signed_arith)) (omega (arith, signed_arith)) in
    let near = onset_within rule std before at h there in
    omega (arith, signed_arith)

-- up to the last nine days of a year each onset of a later year comes after the moment
pub onset_after_early : (rule : DstRule) (std y later t : ℤ) (at : Edge) → IsLawfulRule std rule → IsYear y → IsYear later → y <ℤ later
    → t <ℤ ((days_from_civil y 1 1 *ℤ pos 86400) +ℤ pos 30758400) → t <ℤ onset_of rule std later at
onset_after_early rule std y later t at h year there lt before =
    let long = year_is_long y later year lt in
    let near = onset_within rule std later at h there in
    omega (arith, signed_arith)

-- and after the first eight days of a year no onset of an earlier year does
pub onset_before_late : (rule : DstRule) (std y before t : ℤ) (at : Edge) → IsLawfulRule std rule → IsYear before → before <ℤ y
    → ((days_from_civil y 1 1 *ℤ pos 86400) +ℤ pos 691200) ≤ℤ t → onset_of rule std before at ≤ℤ t
onset_before_late rule std y before t at h there lt late =
    let long = year_is_long before y there lt in
    let near = onset_within rule std before at h there in
    omega (arith, signed_arith)

-- an onset not after the moment, where each of a later year is after it, is the greatest
pub latest_is : (rule : DstRule) (std y t m : ℤ) (at : Edge) → IsLawfulRule std rule → IsBetween (pos 1798) (pos 9999) y → m ≡ onset_of rule std y at → m ≤ℤ t
    → ((other : ℤ) → IsBetween (pos 1798) (pos 9999) other → y <ℤ other → t <ℤ onset_of rule std other at)
    → IsLatest rule std at t m
latest_is rule std y t m at h year is begun late = record {
  year = y;
  year_in = year;
  onset_is = is;
  begun = begun;
  greatest = λ other there before. by_lt_z y other
      (λ lt. let after = late other there lt in absurd (omega (arith, signed_arith)))
      (λ le. by_lt_z other y
      (λ gt. let rises = onset_rises rule std other y at h (year_of other there) (year_of y year) gt in omega (arith, signed_arith))
      (λ ge. let same : other ≡ y = omega (arith, signed_arith) in rw same (omega (arith, signed_arith, is))));
}
