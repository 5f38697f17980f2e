-- The test over all years, from the greatest start and the greatest end not after the moment.
use Rattle.std.proofs.Common.{◌≡◌, ℕ, zero, suc, ◌+◌, ◌<◌, Bool, true, false, not, ◌&&◌, inl, inr, refl, sym, ap, ◌∙◌, arith, ℤ, pos, ◌-ℤ◌, ◌<ℤ◌, ◌≤ℤ◌, ◌≢◌}
use Rattle.std.proofs.Common.{int_lt, int_le, if◌then◌else◌, unsigned_abs}
use Rattle.std.specs.List.{list_any}
use Rattle.std.proofs.Math.Bool.{or-true}
use Rattle.std.proofs.lemmas.Bool.{cases_order}
use Rattle.std.proofs.lemmas.Int.{by_lt_z, ints}
use Rattle.jiff_core.specs.Calendar.{IsBetween}
use Rattle.jiff_core.proofs.SignedLemmas.{signed_arith, one_part}
use Rattle.posix_footer.specs.declared.rule_types.Edge.{Edge}
use Rattle.posix_footer.specs.declared.rule_types.Edge.TheVariants as edge
use Rattle.posix_footer.specs.declared.rule_types.DstRule.{DstRule}
use Rattle.posix_footer.specs.Onset.{onset_of}
use Rattle.posix_footer.specs.StateAt.{first_years, years, has_ended, is_daylight, IsLatest, IsLastChange}

-- a year that passes a test is found among the first n
first_years_pass : (n k : ℕ) (test : ℤ → Bool) → k < n → test (pos (1798 + k)) ≡ true → list_any test (first_years n) ≡ true
unfolding first_years
first_years_pass zero k test lt passes = absurd (omega arith)
first_years_pass (suc n) k test lt passes =
    elim (cases_order k n) [
      | inl same ↦ let here : test (pos (1798 + n)) ≡ true = ap (λ i. test (pos (1798 + i))) (sym same) ∙ passes in rw here
      | inr (inl less) ↦ rw (first_years_pass n k test less passes) (or-true (test (pos (1798 + n))))
      | inr (inr gt) ↦ absurd (omega arith)
    ]

-- and there is none where each fails it
first_years_fail : (n : ℕ) (test : ℤ → Bool) → ((k : ℕ) → k < n → test (pos (1798 + k)) ≡ false) → list_any test (first_years n) ≡ false
unfolding first_years
first_years_fail zero test fails = refl
first_years_fail (suc n) test fails =
    rw (fails n (omega arith)) (first_years_fail n test (λ k lt. fails k (omega arith)))

-- the same of the years whose onsets count
pub some_year : (test : ℤ → Bool) (year : ℤ) → IsBetween (pos 1798) (pos 9999) year → test year ≡ true → list_any test years ≡ true
unfolding years
some_year test year there passes =
    let k = unsigned_abs (year -ℤ pos 1798) in
    let is : pos (1798 + k) ≡ year = omega (arith, signed_arith, one_part (year -ℤ pos 1798)) in
    first_years_pass 8202 k test (omega (arith, signed_arith, one_part (year -ℤ pos 1798))) (ap test is ∙ passes)

pub no_year : (test : ℤ → Bool) → ((year : ℤ) → IsBetween (pos 1798) (pos 9999) year → test year ≡ false) → list_any test years ≡ false
unfolding years
no_year test fails =
    first_years_fail 8202 test (λ k lt. fails (pos (1798 + k)) (omega (arith, signed_arith), omega (arith, signed_arith)))

-- a moment that is not after t only if it is not after s does not lie after s and not after t
pub not_between : (s t m : ℤ) → (m ≤ℤ t → m ≤ℤ s) → (int_lt s m && int_le m t) ≡ false
not_between s t m h =
    by_lt_z s m
    (λ after. by_lt_z t m (λ late. grind (arith, ints)) (λ begun. let before = h begun in absurd (omega (arith, signed_arith))))
    (λ before. grind (arith, ints))

pub between_is : (s t m : ℤ) → s <ℤ m → m ≤ℤ t → (int_lt s m && int_le m t) ≡ true
between_is s t m after begun = grind (arith, ints)

-- after the greatest end, and from it on, it has not ended
not_ended : (rule : DstRule) (std t last after : ℤ) → IsLatest rule std edge.End t last → last ≤ℤ after → has_ended rule std after t ≡ false
unfolding has_ended
not_ended rule std t last after is h =
    no_year _ (λ year there. not_between after t (onset_of rule std year edge.End)
    (λ begun. let before = is.greatest year there begun in omega (arith, signed_arith)))

-- before it, it has
ended_by : (rule : DstRule) (std t last after : ℤ) → IsLatest rule std edge.End t last → after <ℤ last → has_ended rule std after t ≡ true
unfolding has_ended
ended_by rule std t last after is h =
    some_year _ is.year is.year_in (rw (← is.onset_is) (between_is after t last h is.begun))

pub begun_and : (m t : ℤ) (ended : Bool) → m ≤ℤ t → ended ≡ false → (int_le m t && not ended) ≡ true
begun_and m t ended begun e = rw e (grind (arith, ints))

pub not_begun_or : (m t : ℤ) (ended : Bool) → (m ≤ℤ t → ended ≡ true) → (int_le m t && not ended) ≡ false
not_begun_or m t ended h =
    by_lt_z t m (λ late. grind (arith, ints)) (λ begun. rw (h begun) (grind (arith, ints)))

-- where the greatest end does not lie after the greatest start, it is daylight saving time
pub daylight_holds : (rule : DstRule) (std t started ended : ℤ) → IsLatest rule std edge.Start t started → IsLatest rule std edge.End t ended
    → ended ≤ℤ started → is_daylight rule std t ≡ true
unfolding is_daylight
daylight_holds rule std t started ended start end h =
    some_year _ start.year start.year_in (rw (← start.onset_is)
    (begun_and started t (has_ended rule std started t) start.begun (not_ended rule std t ended started end h)))

-- and else it is not
pub standard_holds : (rule : DstRule) (std t started ended : ℤ) → IsLatest rule std edge.Start t started → IsLatest rule std edge.End t ended
    → started <ℤ ended → is_daylight rule std t ≡ false
unfolding is_daylight
standard_holds rule std t started ended start end h =
    no_year _ (λ year there. not_begun_or (onset_of rule std year edge.Start) t (has_ended rule std (onset_of rule std year edge.Start) t)
    (λ begun. let before = start.greatest year there begun in ended_by rule std t ended (onset_of rule std year edge.Start) end (omega (arith, signed_arith))))

-- so comparing the two decides
pub daylight_is : (rule : DstRule) (std t started ended : ℤ) → IsLatest rule std edge.Start t started → IsLatest rule std edge.End t ended
    → int_le ended started ≡ is_daylight rule std t
daylight_is rule std t started ended start end =
    by_lt_z started ended
    (λ lt. let no = standard_holds rule std t started ended start end lt in rw no (grind (arith, ints)))
    (λ le. let yes = daylight_holds rule std t started ended start end le in rw yes (grind (arith, ints)))

-- and tells which change was the last
start_is_last : (rule : DstRule) (std t started ended : ℤ) → IsLatest rule std edge.Start t started → IsLatest rule std edge.End t ended → ended ≤ℤ started
    → IsLastChange rule std t edge.Start
start_is_last rule std t started ended start end h =
    let no_later : (other : ℤ) (at : Edge) → IsBetween (pos 1798) (pos 9999) other → onset_of rule std other at ≤ℤ t → onset_of rule std other at ≤ℤ started =
    λ other at. elim at as (λ a. IsBetween (pos 1798) (pos 9999) other → onset_of rule std other a ≤ℤ t → onset_of rule std other a ≤ℤ started) [
      | edge.Start ↦ start.greatest other
      | edge.End ↦ λ there begun. let before = end.greatest other there begun in omega (arith, signed_arith)
    ] in
    record {
      year = start.year;
      year_in = start.year_in;
      begun = rw (← start.onset_is) start.begun;
      last = rw (← start.onset_is) no_later;
      start_counts = λ e. cc;
    }

end_is_last : (rule : DstRule) (std t started ended : ℤ) → IsLatest rule std edge.Start t started → IsLatest rule std edge.End t ended → started <ℤ ended
    → IsLastChange rule std t edge.End
end_is_last rule std t started ended start end h =
    let no_later : (other : ℤ) (at : Edge) → IsBetween (pos 1798) (pos 9999) other → onset_of rule std other at ≤ℤ t → onset_of rule std other at ≤ℤ ended =
    λ other at. elim at as (λ a. IsBetween (pos 1798) (pos 9999) other → onset_of rule std other a ≤ℤ t → onset_of rule std other a ≤ℤ ended) [
      | edge.Start ↦ λ there begun. let before = start.greatest other there begun in omega (arith, signed_arith)
      | edge.End ↦ end.greatest other
    ] in
    let apart : (other : ℤ) → IsBetween (pos 1798) (pos 9999) other → onset_of rule std other edge.Start ≢ ended =
    λ other there same.
    let begun : onset_of rule std other edge.Start ≤ℤ t = rw same end.begun in
    let before = start.greatest other there begun in
    absurd (omega (arith, signed_arith, same)) in
    record {
      year = end.year;
      year_in = end.year_in;
      begun = rw (← end.onset_is) end.begun;
      last = rw (← end.onset_is) no_later;
      start_counts = λ e. rw (← end.onset_is) apart;
    }

pub last_change_is : (rule : DstRule) (std t started ended : ℤ) → IsLatest rule std edge.Start t started → IsLatest rule std edge.End t ended
    → IsLastChange rule std t (if int_le ended started then edge.Start else edge.End)
last_change_is rule std t started ended start end =
    by_lt_z started ended
    (λ lt. let no : int_le ended started ≡ false = grind (arith, ints) in rw no (end_is_last rule std t started ended start end lt))
    (λ le. let yes : int_le ended started ≡ true = grind (arith, ints) in rw yes (start_is_last rule std t started ended start end le))
