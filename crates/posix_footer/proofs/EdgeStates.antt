-- The state at an onset, by its edge.
use Rattle.std.proofs.Common.{◌≡◌, Option, None, Some, true, false, refl, sym, ap, ◌∙◌, arith, ℤ, pos, ◌≤ℤ◌, ◌<ℤ◌, int_le}
use Rattle.std.specs.Prelude.{if◌then◌else◌}
use Rattle.std.proofs.lemmas.Int.{by_lt_z, ints}
use Rattle.jiff_core.specs.Calendar.{IsBetween}
use Rattle.jiff_core.proofs.SignedLemmas.{signed_arith}
use Rattle.td_civil.specs.declared.moment_type.Moment.{Moment}
use Rattle.posix_footer.specs.declared.rule_types.Edge.TheVariants as edge
use Rattle.posix_footer.specs.declared.rule_types.DstRule.{DstRule}
use Rattle.posix_footer.specs.NextOnset.{IsNextIfAny, earlier, has_started}
use Rattle.posix_footer.specs.Onset.{onset_of}
use Rattle.posix_footer.specs.StateAt.{has_ended, is_daylight}
use Rattle.posix_footer.proofs.DaylightLemmas.{some_year, no_year, not_between, between_is, begun_and, not_begun_or}

-- it has not ended since the moment itself
none_since : (rule : DstRule) (std t : ℤ) → has_ended rule std t t ≡ false
unfolding has_ended
none_since rule std t = no_year _ (λ year there. not_between t t (onset_of rule std year edge.End) (λ begun. begun))

-- from a start on daylight saving time holds
at_start : (rule : DstRule) (std year m : ℤ) → IsBetween (pos 1798) (pos 9999) year → m ≡ onset_of rule std year edge.Start → is_daylight rule std m ≡ true
unfolding is_daylight
at_start rule std year m there is =
    some_year _ year there (rw (← is) (begun_and m m (has_ended rule std m m) (omega (arith, signed_arith)) (none_since rule std m)))

-- before an end it has, where it began
ended_at : (rule : DstRule) (std year m since : ℤ) → IsBetween (pos 1798) (pos 9999) year → m ≡ onset_of rule std year edge.End → since <ℤ m
    → has_ended rule std since m ≡ true
unfolding has_ended
ended_at rule std year m since there is before =
    some_year _ year there (rw (← is) (between_is since m m before (omega (arith, signed_arith))))

-- from an end on on which no start falls standard time holds
at_end : (rule : DstRule) (std year m : ℤ) → IsBetween (pos 1798) (pos 9999) year → m ≡ onset_of rule std year edge.End
    → ((other : ℤ) → IsBetween (pos 1798) (pos 9999) other → onset_of rule std other edge.Start ≤ℤ m → onset_of rule std other edge.Start <ℤ m)
    → is_daylight rule std m ≡ false
unfolding is_daylight
at_end rule std year m there is apart =
    no_year _ (λ other in_years. not_begun_or (onset_of rule std other edge.Start) m (has_ended rule std (onset_of rule std other edge.Start) m)
    (λ begun. ended_at rule std year m (onset_of rule std other edge.Start) there is (apart other in_years begun)))

-- the first onset after a moment is a start exactly where daylight saving time holds then
pub started_is : (rule : DstRule) (std t : ℤ) (start end : Option Moment) (m : Moment) → IsNextIfAny rule std edge.Start t start
    → IsNextIfAny rule std edge.End t end → earlier start end ≡ Some m → has_started start m.seconds ≡ is_daylight rule std m.seconds
started_is rule std t None None m starts ends is = cc
started_is rule std t None (Some n) m starts ends is =
    let same : n ≡ m = cc in
    let at : m.seconds ≡ onset_of rule std ends.year edge.End = ap (λ (x : Moment). x.seconds) (sym same) ∙ ends.onset_is in
    let after : t <ℤ m.seconds = rw (← same) ends.after in
    sym (at_end rule std ends.year m.seconds ends.year_in at (λ other there begun. let before = starts other there in omega (arith, signed_arith)))
started_is rule std t (Some s) None m starts ends is =
    let same : s ≡ m = cc in
    let at : m.seconds ≡ onset_of rule std starts.year edge.Start = ap (λ (x : Moment). x.seconds) (sym same) ∙ starts.onset_is in
    rw same (grind (arith, ints)) ∙ sym (at_start rule std starts.year m.seconds starts.year_in at)
started_is rule std t (Some s) (Some n) m starts ends is =
    by_lt_z n.seconds s.seconds
    (λ lt.
    let no : int_le s.seconds n.seconds ≡ false = grind (arith, ints) in
    let pick : (Some (if int_le s.seconds n.seconds then s else n)) ≡ Some n = rw no refl in
    let same : n ≡ m = cc in
    let at : m.seconds ≡ onset_of rule std ends.year edge.End = ap (λ (x : Moment). x.seconds) (sym same) ∙ ends.onset_is in
    let after : t <ℤ m.seconds = rw (← same) ends.after in
    let not_yet : int_le s.seconds m.seconds ≡ false = rw (← same) no in
    not_yet ∙ sym (at_end rule std ends.year m.seconds ends.year_in at
    (λ other there begun. by_lt_z t (onset_of rule std other edge.Start)
    (λ late. let least = starts.least other there late in absurd (omega (arith, signed_arith, ap (λ (x : Moment). x.seconds) same)))
    (λ early. omega (arith, signed_arith)))))
    (λ le.
    let yes : int_le s.seconds n.seconds ≡ true = grind (arith, ints) in
    let pick : (Some (if int_le s.seconds n.seconds then s else n)) ≡ Some s = rw yes refl in
    let same : s ≡ m = cc in
    let at : m.seconds ≡ onset_of rule std starts.year edge.Start = ap (λ (x : Moment). x.seconds) (sym same) ∙ starts.onset_is in
    rw same (grind (arith, ints)) ∙ sym (at_start rule std starts.year m.seconds starts.year_in at))
