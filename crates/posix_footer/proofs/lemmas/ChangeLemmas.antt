-- What upper crates need of the state: the last change decides it, and between two changes it
-- stays.
use Rattle.std.proofs.Common.{◌≡◌, ℕ, zero, suc, ◌+◌, ◌<◌, Bool, true, false, ◌&&◌, refl, ap, arith, ℤ, pos, ◌≤ℤ◌, int_lt, int_le, Option, None, Some}
use Rattle.std.proofs.Common.{if◌then◌else◌}
use Rattle.std.specs.List.{list_any}
use Rattle.std.proofs.lemmas.Int.{by_lt_z, ints}
use Rattle.jiff_core.specs.Calendar.{IsBetween}
use Rattle.jiff_core.proofs.SignedLemmas.{signed_arith}
use Rattle.td_civil.specs.declared.local_time.Local.{Local}
use Rattle.posix_footer.specs.declared.rule_types.Footer.{Footer}
use Rattle.posix_footer.specs.declared.rule_types.Edge.TheVariants as edge
use Rattle.posix_footer.specs.declared.rule_types.DstRule.{DstRule}
use Rattle.posix_footer.specs.Onset.{onset_of}
use Rattle.posix_footer.specs.NextOnset.{IsQuiet, IsQuietIfAny}
use Rattle.posix_footer.specs.StateAt.{first_years, years, has_ended, is_daylight, state_by, state_of, IsLastChange}
use Rattle.posix_footer.proofs.DaylightLemmas.{some_year, no_year, not_between, between_is, begun_and, not_begun_or}

-- a last change that is a start gives daylight saving time
pub daylight_after_start : (rule : DstRule) (std t : ℤ) → IsLastChange rule std t edge.Start → is_daylight rule std t ≡ true
unfolding is_daylight has_ended
daylight_after_start rule std t is =
    some_year _ is.year is.year_in (begun_and (onset_of rule std is.year edge.Start) t _ is.begun
    (no_year _ (λ other there. not_between (onset_of rule std is.year edge.Start) t (onset_of rule std other edge.End) (is.last other edge.End there))))

-- and one that is an end gives standard time
pub standard_after_end : (rule : DstRule) (std t : ℤ) → IsLastChange rule std t edge.End → is_daylight rule std t ≡ false
unfolding is_daylight has_ended
standard_after_end rule std t is =
    no_year _ (λ other there. not_begun_or (onset_of rule std other edge.Start) t _
    (λ begun.
    let before = is.last other edge.Start there begun in
    let apart = is.start_counts refl other there in
    some_year _ is.year is.year_in (between_is (onset_of rule std other edge.Start) t (onset_of rule std is.year edge.End) (omega (arith, signed_arith, apart))
    is.begun)))

first_years_same : (n : ℕ) (p q : ℤ → Bool) → ((k : ℕ) → k < n → p (pos (1798 + k)) ≡ q (pos (1798 + k)))
    → list_any p (first_years n) ≡ list_any q (first_years n)
unfolding first_years
first_years_same zero p q same = refl
first_years_same (suc n) p q same =
    let here = same n (omega arith) in
    let rest = first_years_same n p q (λ k lt. same k (omega arith)) in
    cc

-- tests that agree in each year find a year alike
same_years : (p q : ℤ → Bool) → ((year : ℤ) → IsBetween (pos 1798) (pos 9999) year → p year ≡ q year) → list_any p years ≡ list_any q years
unfolding years
same_years p q same =
    first_years_same 8202 p q (λ k lt. same (pos (1798 + k)) (omega (arith, signed_arith), omega (arith, signed_arith)))

same_bound : (m t u : ℤ) → t ≤ℤ u → (m ≤ℤ u → m ≤ℤ t) → int_le m t ≡ int_le m u
same_bound m t u h quiet =
    by_lt_z u m (λ late. grind (arith, ints)) (λ begun. let before = quiet begun in grind (arith, ints))

-- between two changes the state stays
pub daylight_stays : (rule : DstRule) (std t u : ℤ) → t ≤ℤ u → IsQuiet rule std t u → is_daylight rule std t ≡ is_daylight rule std u
unfolding is_daylight has_ended
daylight_stays rule std t u h quiet =
    same_years _ _ (λ year there.
    let begun = same_bound (onset_of rule std year edge.Start) t u h (quiet year edge.Start there) in
    let ended = same_years (λ other. int_lt (onset_of rule std year edge.Start) (onset_of rule std other edge.End) && int_le (onset_of rule std other edge.End)
    t) (λ other. int_lt (onset_of rule std year edge.Start) (onset_of rule std other edge.End) && int_le (onset_of rule std other edge.End) u)
    (λ other that. ap (λ b. int_lt (onset_of rule std year edge.Start) (onset_of rule std other edge.End) && b)
    (same_bound (onset_of rule std other edge.End) t u h (quiet other edge.End that))) in
    cc)

stays_by : (std : Local) (rule : Option DstRule) (t u : ℤ) → t ≤ℤ u → IsQuietIfAny rule std.offset t u → state_by std rule t ≡ state_by std rule u
stays_by std None t u h quiet = refl
stays_by std (Some rule) t u h quiet = ap (λ b. if b then rule.dst else std) (daylight_stays rule std.offset t u h quiet)

-- and so does the state of a footer
pub footer_stays : (footer : Footer) (t u : ℤ) → t ≤ℤ u → IsQuietIfAny footer.dst footer.std.offset t u → state_of footer t ≡ state_of footer u
footer_stays footer t u h quiet = stays_by footer.std footer.dst t u h quiet
