-- The calendar repeats in 400 years, and with it the state that a footer gives.
use Rattle.std.proofs.Common.{◌≡◌, ℕ, zero, suc, ◌+◌, ◌-◌, ◌*◌, ◌%◌, ◌≤◌, ◌==◌, nat_le, min, true, false, ◌&&◌, ◌||◌, cond, not, if◌then◌else◌, refl, sym, ap, ◌∙◌}
use Rattle.std.proofs.Common.{arith, ℤ, pos, neg_ℤ, ◌+ℤ◌, ◌*ℤ◌, ◌-ℤ◌, ◌≤ℤ◌, ◌<ℤ◌, unsigned_abs, int_le, Option, None, Some}
use Rattle.std.proofs.lemmas.Int.{by_lt_z, ints}
use Rattle.jiff_core.specs.Calendar.{IsBetween, is_leap_year, days_in_month, days_of_years, days_of_months, day_of_year, day_count, days_from_civil}
use Rattle.jiff_core.specs.Calendar.{weekday_number}
use Rattle.jiff_core.proofs.SignedLemmas.{signed_arith, one_part}
use Rattle.jiff_core.proofs.CalendarLemmas.{days_from_civil-day_count, weekday_number-add, weekday_number_bound}
use Rattle.td_civil.specs.Bounds.{HasMeaning}
use Rattle.td_civil.proofs.lemmas.CalendarAgain.{leap_again, month_again, days_again}
use Rattle.td_civil.specs.declared.local_time.Local.{Local}
use Rattle.posix_footer.specs.declared.rule_types.DayForm.{DayForm}
use Rattle.posix_footer.specs.declared.rule_types.DayForm.TheVariants as day
use Rattle.posix_footer.specs.declared.rule_types.Edge.{Edge}
use Rattle.posix_footer.specs.declared.rule_types.Edge.TheVariants as edge
use Rattle.posix_footer.specs.declared.rule_types.Date.{Date}
use Rattle.posix_footer.specs.declared.rule_types.DstRule.{DstRule}
use Rattle.posix_footer.specs.declared.rule_types.Footer.{Footer}
use Rattle.posix_footer.specs.Lawful.{IsLawful, IsLawfulRule, IsLawfulIfAny}
use Rattle.posix_footer.specs.Onset.{weekday_from_sunday, last_weekday, month_day, days_before, day_number, moment_on, onset_of}
use Rattle.posix_footer.specs.StateAt.{is_daylight, state_by, state_of, IsLatest}
use Rattle.posix_footer.proofs.DaylightLemmas.{daylight_is}
use Rattle.posix_footer.proofs.lemmas.StateLemmas.{year_of, onset_rises, onset_after, onset_before, latest_is}
use Rattle.posix_footer.proofs.lemmas.YearLemmas.{year_1800, year_9999}

-- which are whole weeks
weekday_again : (d later : ℤ) → later ≡ d +ℤ pos 146097 → weekday_from_sunday later ≡ weekday_from_sunday d
weekday_again d later e =
    let moved = weekday_number-add d later 146097 e in
    let bound = weekday_number_bound d in
    let same : weekday_number later ≡ weekday_number d = omega (arith, moved, bound) in
    ap (λ k. (k + 1) % 7) same

-- ---- the onsets

either_same : (a b w k x y : ℕ) → a ≡ b → x ≡ y → (if a == w then k else x) ≡ (if b == w then k else y)
either_same a b w k x y p q = ap (λ c. if c == w then k else x) p ∙ ap (λ z. if b == w then k else z) q

last_again : (n m w k : ℕ) → last_weekday (pos (n + 400)) m w k ≡ last_weekday (pos n) m w k
unfolding last_weekday
last_again n m w zero = refl
last_again n m w (suc k) =
    either_same _ _ w (suc k) _ _
    (weekday_again (days_from_civil (pos n) m (suc k)) (days_from_civil (pos (n + 400)) m (suc k)) (days_again n m (suc k)))
    (last_again n m w k)

before_again : (n d : ℕ) → days_before (pos (n + 400)) d ≡ days_before (pos n) d
before_again n d = ap (λ b. if b && nat_le 60 d then d else d - 1) (leap_again n)

month_day_again : (n m week w : ℕ) → month_day (pos (n + 400)) m week w ≡ month_day (pos n) m week w
month_day_again n m week w =
    last_again n m w (min (7 * week) (days_in_month (pos (n + 400)) m))
    ∙ ap (λ k. last_weekday (pos n) m w (min (7 * week) k)) (month_again n m)

day_by : (a b : ℤ) (x y : ℕ) → a ≡ b +ℤ pos 146097 → x ≡ y → a +ℤ pos x ≡ (b +ℤ pos y) +ℤ pos 146097
day_by a b x y moved same = omega (arith, signed_arith)

day_again : (form : DayForm) (n : ℕ) → day_number form (pos (n + 400)) ≡ day_number form (pos n) +ℤ pos 146097
day_again (day.Julian d) n =
    day_by (days_from_civil (pos (n + 400)) 1 1) (days_from_civil (pos n) 1 1) (days_before (pos (n + 400)) d) (days_before (pos n) d) (days_again n 1 1)
    (before_again n d)
day_again (day.YearDay d) n = day_by (days_from_civil (pos (n + 400)) 1 1) (days_from_civil (pos n) 1 1) d d (days_again n 1 1) refl
day_again (day.Week m week w) n =
    ap (days_from_civil (pos (n + 400)) m) (month_day_again n m week w) ∙ days_again n m (month_day (pos n) m week w)

moment_by : (a b time offset : ℤ) → a ≡ b +ℤ pos 146097
    → ((a *ℤ pos 86400) +ℤ time) -ℤ offset ≡ (((b *ℤ pos 86400) +ℤ time) -ℤ offset) +ℤ pos 12622780800
moment_by a b time offset moved = omega (arith, signed_arith)

moment_again : (date : Date) (offset : ℤ) (n : ℕ) → moment_on date offset (pos (n + 400)) ≡ moment_on date offset (pos n) +ℤ pos 12622780800
moment_again date offset n =
    moment_by (day_number date.day (pos (n + 400))) (day_number date.day (pos n)) date.time offset (day_again date.day n)

-- an onset comes again as many seconds later
pub onset_again : (rule : DstRule) (std : ℤ) (at : Edge) (n : ℕ) → onset_of rule std (pos (n + 400)) at ≡ onset_of rule std (pos n) at +ℤ pos 12622780800
onset_again rule std edge.Start n = moment_again rule.start std n
onset_again rule std edge.End n = moment_again rule.end rule.dst.offset n

onset_by : (rule : DstRule) (std : ℤ) (at : Edge) (n : ℕ) (y later : ℤ) → y ≡ pos n → later ≡ pos (n + 400)
    → onset_of rule std later at ≡ onset_of rule std y at +ℤ pos 12622780800
onset_by rule std at n y later here there = rw (here, there) (onset_again rule std at n)

onset_later : (rule : DstRule) (std : ℤ) (at : Edge) (y later : ℤ) → pos 0 ≤ℤ y → later ≡ y +ℤ pos 400
    → onset_of rule std later at ≡ onset_of rule std y at +ℤ pos 12622780800
onset_later rule std at y later low is =
    onset_by rule std at (unsigned_abs y) y later (omega (arith, signed_arith, one_part y)) (omega (arith, signed_arith, is, one_part y))

-- ---- the state

-- the first year's onsets have come by each moment that has a meaning
first_begun : (rule : DstRule) (std t : ℤ) (at : Edge) → IsLawfulRule std rule → HasMeaning t → onset_of rule std (pos 1798) at ≤ℤ t
first_begun rule std t at h meaning =
    let first : neg_ℤ (pos 5364662400) ≤ℤ t = meaning.0 in
    onset_before rule std (pos 1800) (pos 1798) t at h (omega (arith, signed_arith)) (omega (arith, signed_arith)) (omega (arith, signed_arith))
    (omega (arith, signed_arith, year_1800))

-- an onset that has come 400 years before the end is none of the last 400 years
not_last : (rule : DstRule) (std t y : ℤ) (at : Edge) → IsLawfulRule std rule → HasMeaning (t +ℤ pos 12622780800) → IsBetween (pos 1798) (pos 9999) y
    → onset_of rule std y at ≤ℤ t → y ≤ℤ pos 9599
not_last rule std t y at h meaning there begun =
    by_lt_z (pos 9599) y
    (λ late.
    let end : (t +ℤ pos 12622780800) <ℤ pos 253370764800 = meaning.1 in
    let begins : days_from_civil (pos 9999) 1 1 ≡ days_from_civil (pos 9599) 1 1 +ℤ pos 146097 = days_again 9599 1 1 in
    let before : t <ℤ (days_from_civil (pos 9599) 1 1 *ℤ pos 86400) = omega (arith, signed_arith, begins, year_9999) in
    let after = onset_after rule std (pos 9598) (pos 9599) y t at h (omega (arith, signed_arith)) (year_of y there) refl late before in
    absurd (omega (arith, signed_arith)))
    (λ le. le)

-- the greatest onset not after a moment comes again as the greatest not after the later one
latest_again : (rule : DstRule) (std t m : ℤ) (at : Edge) → IsLawfulRule std rule → HasMeaning t → HasMeaning (t +ℤ pos 12622780800) → IsLatest rule std at t m
    → IsLatest rule std at (t +ℤ pos 12622780800) (m +ℤ pos 12622780800)
latest_again rule std t m at h meaning after_cycle is =
    let onset = is.onset_is in
    let begun = is.begun in
    let low = is.year_in.0 in
    let top = is.year_in.1 in
    let begun_y : onset_of rule std is.year at ≤ℤ t = omega (arith, signed_arith, onset) in
    let high = not_last rule std t is.year at h after_cycle is.year_in begun_y in
    let again = onset_later rule std at is.year (is.year +ℤ pos 400) (omega (arith, signed_arith)) refl in
    record {
      year = is.year +ℤ pos 400;
      year_in = (omega (arith, signed_arith), omega (arith, signed_arith));
      onset_is = omega (arith, signed_arith, again, onset);
      begun = omega (arith, signed_arith);
      greatest = λ other other_in before. by_lt_z other (pos 2198)
          (λ early.
          let first = first_begun rule std t at h meaning in
          let least = is.greatest (pos 1798) (omega (arith, signed_arith), omega (arith, signed_arith)) first in
          let repeats = onset_later rule std at (pos 1798) (pos 2198) (omega (arith, signed_arith)) refl in
          let rises = onset_rises rule std other (pos 2198) at h (year_of other other_in) (omega (arith, signed_arith)) early in
          omega (arith, signed_arith, repeats))
          (λ late.
          let most = other_in.1 in
          let earlier = other -ℤ pos 400 in
          let repeats = onset_later rule std at earlier other (omega (arith, signed_arith)) (omega (arith, signed_arith)) in
          let not_after : onset_of rule std earlier at ≤ℤ t = omega (arith, signed_arith, repeats) in
          let least = is.greatest earlier (omega (arith, signed_arith), omega (arith, signed_arith)) not_after in
          omega (arith, signed_arith, repeats));
    }

-- there is such an onset
latest_from : (rule : DstRule) (std t : ℤ) (at : Edge) → IsLawfulRule std rule → HasMeaning t → (n : ℕ) → n ≤ 8201
    → ((other : ℤ) → IsBetween (pos 1798) (pos 9999) other → pos (1798 + n) <ℤ other → t <ℤ onset_of rule std other at) → (m : ℤ) × IsLatest rule std at t m
latest_from rule std t at h meaning zero le late = (
  onset_of rule std (pos 1798) at,
  latest_is rule std (pos 1798) t (onset_of rule std (pos 1798) at) at h (omega (arith, signed_arith), omega (arith, signed_arith)) refl
      (first_begun rule std t at h meaning) late,
)
latest_from rule std t at h meaning (suc n) le late =
    let y = pos (1798 + suc n) in
    by_lt_z t (onset_of rule std y at)
    (λ after. latest_from rule std t at h meaning n (omega arith)
    (λ other there above. by_lt_z y other (λ far. late other there far)
    (λ near. let same : other ≡ y = omega (arith, signed_arith) in rw same after)))
    (λ begun. (
      onset_of rule std y at,
      latest_is rule std y t (onset_of rule std y at) at h (omega (arith, signed_arith), omega (arith, signed_arith)) refl begun late,
    ))

some_latest : (rule : DstRule) (std t : ℤ) (at : Edge) → IsLawfulRule std rule → HasMeaning t → (m : ℤ) × IsLatest rule std at t m
some_latest rule std t at h meaning =
    latest_from rule std t at h meaning 8201 (omega arith) (λ other there above. let high = there.1 in absurd (omega (arith, signed_arith)))

in_order : (a b : ℤ) → a ≤ℤ b → int_le a b ≡ true
in_order a b le = grind (arith, ints)

out_of_order : (a b : ℤ) → b <ℤ a → int_le a b ≡ false
out_of_order a b lt = grind (arith, ints)

same_order : (a b : ℤ) → int_le a b ≡ int_le (a +ℤ pos 12622780800) (b +ℤ pos 12622780800)
same_order a b =
    by_lt_z b a
    (λ lt. out_of_order a b lt ∙ sym (out_of_order (a +ℤ pos 12622780800) (b +ℤ pos 12622780800) (omega (arith, signed_arith))))
    (λ le. in_order a b le ∙ sym (in_order (a +ℤ pos 12622780800) (b +ℤ pos 12622780800) (omega (arith, signed_arith))))

daylight_again : (rule : DstRule) (std t : ℤ) → IsLawfulRule std rule → HasMeaning t → HasMeaning (t +ℤ pos 12622780800)
    → is_daylight rule std (t +ℤ pos 12622780800) ≡ is_daylight rule std t
daylight_again rule std t h meaning after_cycle =
    let start = some_latest rule std t edge.Start h meaning in
    let end = some_latest rule std t edge.End h meaning in
    let start_again = latest_again rule std t start.0 edge.Start h meaning after_cycle start.1 in
    let end_again = latest_again rule std t end.0 edge.End h meaning after_cycle end.1 in
    sym (daylight_is rule std (t +ℤ pos 12622780800) (start.0 +ℤ pos 12622780800) (end.0 +ℤ pos 12622780800) start_again end_again)
    ∙ sym (same_order end.0 start.0) ∙ daylight_is rule std t start.0 end.0 start.1 end.1

again_by : (std : Local) (rule : Option DstRule) (t : ℤ) → IsLawfulIfAny std.offset rule → HasMeaning t → HasMeaning (t +ℤ pos 12622780800)
    → state_by std rule (t +ℤ pos 12622780800) ≡ state_by std rule t
again_by std None t h meaning after_cycle = refl
again_by std (Some rule) t h meaning after_cycle = ap (λ b. if b then rule.dst else std) (daylight_again rule std.offset t h meaning after_cycle)

-- so the state comes again
pub state_again : (footer : Footer) (t later : ℤ) → IsLawful footer → later ≡ t +ℤ pos 12622780800 → HasMeaning t → HasMeaning later
    → state_of footer later ≡ state_of footer t
state_again footer t later h is meaning after_cycle =
    rw is (again_by footer.std footer.dst t h.rule meaning (rw is at after_cycle))
