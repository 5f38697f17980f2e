-- The last onset before a moment is that of the moment's year or of the year before.
use Rattle.std.proofs.Common.{◌≡◌, ℕ, zero, suc, ◌+◌, ◌<◌, true, false, ◌⊎◌, inl, inr, refl, sym, subst, arith, ℤ, pos, neg_ℤ, ◌+ℤ◌, ◌-ℤ◌, ◌*ℤ◌, ◌≤ℤ◌, ◌<ℤ◌}
use Rattle.std.proofs.Common.{int_lt, unsigned_abs, Option, None, Some}
use Rattle.std.proofs.lemmas.Bool.{cond_both, cases_lt, cases_order}
use Rattle.jiff_core.specs.Calendar.{days_from_civil, IsYear, IsBetween}
use Rattle.jiff_core.proofs.SignedLemmas.{signed_arith, one_part}
use Rattle.std.specs.Int.{int_min}
use Rattle.std.proofs.lemmas.Int.{by_lt_z, int_min_is}
use Rattle.td_civil.specs.Bounds.{IsWithinBounds}
use Rattle.td_civil.specs.Calendar.{IsInYear}
use Rattle.td_civil.proofs.lemmas.Years.{year_is_long}
use Rattle.posix_footer.proofs.lemmas.YearLemmas.{year_in_range}
use Rattle.recurrence.proofs.lemmas.AllYear.{year_9999}
use Rattle.td_civil.specs.declared.moment_type.Moment.{Moment}
use Rattle.posix_footer.specs.declared.rule_types.Edge.{Edge}
use Rattle.posix_footer.specs.declared.rule_types.DstRule.{DstRule}
use Rattle.posix_footer.specs.Carried.{is_carried_rule}
use Rattle.posix_footer.specs.Lawful.{IsLawfulRule}
use Rattle.posix_footer.specs.Onset.{onset_of}
use Rattle.recurrence.proofs.lemmas.InYear.{onset_in_year}
use Rattle.vtimezone.specs.LastYear.{IsLastYear}
use Rattle.vtimezone.specs.PartsOf.{last_before}

pub lt_is : (x y : ℤ) → int_lt x y ≡ true → x <ℤ y
lt_is x y e = omega (arith, signed_arith)

pub ge_is : (x y : ℤ) → int_lt x y ≡ false → y ≤ℤ x
ge_is x y e = omega (arith, signed_arith)

abbrev pub found_at : ℤ → Option Moment
found_at seconds = Some (record { seconds = seconds })

-- where no onset of n years comes before b, there is no last one
none_before : (rule : DstRule) (std : ℤ) (at : Edge) (y0 b : ℤ) (n : ℕ)
    → ((k : ℕ) → k < n → b ≤ℤ onset_of rule std (y0 +ℤ pos k) at) → last_before rule std at y0 b n ≡ None
unfolding last_before
none_before rule std at y0 b zero late = refl
none_before rule std at y0 b (suc n) late =
    let o = onset_of rule std (y0 +ℤ pos n) at in
    cond_both (int_lt o b) (found_at o) (last_before rule std at y0 b n) (λ r. r ≡ None)
    (λ lt. let here = late n (omega arith) in absurd (omega (arith, signed_arith, here, lt_is o b lt)))
    (λ ge. none_before rule std at y0 b n (λ k less. late k (omega arith)))

-- an onset before b, after which none comes before b, is the last one
found_before : (rule : DstRule) (std : ℤ) (at : Edge) (y0 b : ℤ) (n k : ℕ) → k < n → onset_of rule std (y0 +ℤ pos k) at <ℤ b
    → ((j : ℕ) → k < j → j < n → b ≤ℤ onset_of rule std (y0 +ℤ pos j) at)
    → last_before rule std at y0 b n ≡ found_at (onset_of rule std (y0 +ℤ pos k) at)
unfolding last_before
found_before rule std at y0 b zero k lt early late = absurd (omega arith)
found_before rule std at y0 b (suc n) k lt early late =
    let o = onset_of rule std (y0 +ℤ pos n) at in
    let Found : Option Moment → Type 0 = λ r. r ≡ found_at (onset_of rule std (y0 +ℤ pos k) at) in
    cond_both (int_lt o b) (found_at o) (last_before rule std at y0 b n) Found
    (λ before. elim (cases_order k n) [
      | inl same ↦
          let Last : ℕ → Type 0 = λ j. found_at o ≡ found_at (onset_of rule std (y0 +ℤ pos j) at) in
          subst Last (sym same) refl
      | inr (inl less) ↦ let here = late n less (omega arith) in absurd (omega (arith, signed_arith, here, lt_is o b before))
      | inr (inr more) ↦ absurd (omega arith)
    ])
    (λ after. elim (cases_order k n) [
      | inl same ↦
          let Early : ℕ → Type 0 = λ j. onset_of rule std (y0 +ℤ pos j) at <ℤ b in
          let here = subst Early same early in
          absurd (omega (arith, signed_arith, here, ge_is o b after))
      | inr (inl less) ↦ found_before rule std at y0 b n k less early (λ j gt lower. late j gt (omega arith))
      | inr (inr more) ↦ absurd (omega arith)
    ])

module _ (rule : DstRule) (std : ℤ) (at : Edge) (y0 b here : ℤ) (h : IsLawfulRule std rule) (carried : is_carried_rule rule ≡ true)
    (year0 : IsBetween (pos 1801) (pos 9998) y0) (last : IsLastYear b here) where
  count_is : y0 +ℤ pos (unsigned_abs (pos 9999 -ℤ y0)) ≡ pos 9999
  count_is = let range = year0 in omega (arith, signed_arith, one_part (pos 9999 -ℤ y0))

  -- the onsets of later years come after b
  late : (j : ℕ) → here <ℤ (y0 +ℤ pos j) → (y0 +ℤ pos j) ≤ℤ pos 9998 → b ≤ℤ onset_of rule std (y0 +ℤ pos j) at
  late j after most =
      let range = year0 in
      let year : IsYear (y0 +ℤ pos j) = (omega (arith, signed_arith), omega (arith, signed_arith)) in
      let inside = (onset_in_year rule std (y0 +ℤ pos j) at h year carried).0 in
      let begins = last.later (y0 +ℤ pos j) year after most in
      omega (arith, signed_arith)

  pub none_early : here <ℤ y0 → last_before rule std at y0 b (unsigned_abs (pos 9999 -ℤ y0)) ≡ None
  none_early lt =
      none_before rule std at y0 b (unsigned_abs (pos 9999 -ℤ y0))
      (λ k less. late k (omega (arith, signed_arith)) (omega (arith, signed_arith, count_is)))

  pub found_here : y0 ≤ℤ here → onset_of rule std here at <ℤ b
      → last_before rule std at y0 b (unsigned_abs (pos 9999 -ℤ y0)) ≡ found_at (onset_of rule std here at)
  found_here le early =
      let most = last.most in
      let k = unsigned_abs (here -ℤ y0) in
      let is : y0 +ℤ pos k ≡ here = omega (arith, signed_arith, one_part (here -ℤ y0)) in
      let P : ℤ → Type 0 = λ y. onset_of rule std y at <ℤ b
      → last_before rule std at y0 b (unsigned_abs (pos 9999 -ℤ y0)) ≡ found_at (onset_of rule std y at) in
      subst P is (λ before. found_before rule std at y0 b (unsigned_abs (pos 9999 -ℤ y0)) k (omega (arith, signed_arith, count_is, is)) before
      (λ j gt less. late j (omega (arith, signed_arith, is)) (omega (arith, signed_arith, count_is)))) early

  pub none_here : here ≡ y0 → b ≤ℤ onset_of rule std here at → last_before rule std at y0 b (unsigned_abs (pos 9999 -ℤ y0)) ≡ None
  none_here same after =
      none_before rule std at y0 b (unsigned_abs (pos 9999 -ℤ y0)) (λ k less. elim (cases_lt k 1) [
        | inl first ↦
            let at_here : here ≡ y0 +ℤ pos k = omega (arith, signed_arith) in
            let P : ℤ → Type 0 = λ y. b ≤ℤ onset_of rule std y at in
            subst P at_here after
        | inr more ↦ late k (omega (arith, signed_arith)) (omega (arith, signed_arith, count_is))
      ])

  pub found_last : y0 <ℤ here → b ≤ℤ onset_of rule std here at
      → last_before rule std at y0 b (unsigned_abs (pos 9999 -ℤ y0)) ≡ found_at (onset_of rule std (here -ℤ pos 1) at)
  found_last lt after =
      let most = last.most in
      let begun = last.begun in
      let range = year0 in
      let k = unsigned_abs (here -ℤ pos 1 -ℤ y0) in
      let is : y0 +ℤ pos k ≡ here -ℤ pos 1 = omega (arith, signed_arith, one_part (here -ℤ pos 1 -ℤ y0)) in
      let year : IsYear (here -ℤ pos 1) = (omega (arith, signed_arith), omega (arith, signed_arith)) in
      let inside = (onset_in_year rule std (here -ℤ pos 1) at h year carried).1 in
      let next : here -ℤ pos 1 +ℤ pos 1 ≡ here = omega (arith, signed_arith) in
      let Before : ℤ → Type 0 = λ y. onset_of rule std (here -ℤ pos 1) at <ℤ (days_from_civil y 1 1 *ℤ pos 86400) in
      let before_here = subst Before next inside in
      let early : onset_of rule std (here -ℤ pos 1) at <ℤ b = omega (arith, signed_arith) in
      let P : ℤ → Type 0 = λ y. onset_of rule std y at <ℤ b
      → last_before rule std at y0 b (unsigned_abs (pos 9999 -ℤ y0)) ≡ found_at (onset_of rule std y at) in
      subst P is (λ before. found_before rule std at y0 b (unsigned_abs (pos 9999 -ℤ y0)) k (omega (arith, signed_arith, count_is, is)) before
      (λ j gt less. elim (cases_order j (k + 1)) [
        | inl same ↦
            let at_here : here ≡ y0 +ℤ pos j = omega (arith, signed_arith, is) in
            let After : ℤ → Type 0 = λ y. b ≤ℤ onset_of rule std y at in
            subst After at_here after
        | inr (inl lower) ↦ absurd (omega arith)
        | inr (inr higher) ↦ late j (omega (arith, signed_arith, is)) (omega (arith, signed_arith, count_is))
      ])) early

-- the year of a moment within the bounds, or the last one that has a meaning
pub last_year_is : (b year here : ℤ) → neg_ℤ (pos 9999) ≤ℤ year → IsWithinBounds b → IsInYear year b → here ≤ℤ pos 9998
    → (here ≡ year) ⊎ (here ≡ pos 9998) → here ≤ℤ year → IsLastYear b here
last_year_is b year here low range inside most which least =
    let from_lo : neg_ℤ (pos 5364662400) ≤ℤ b = range.0 in
    let to_hi : b ≤ℤ pos 253370764800 = range.1 in
    by_lt_z b (pos 253370764800)
    (λ lt.
    let years = year_in_range year b low (from_lo, lt) inside.0 inside.1 in
    let same : here ≡ year = elim which [ inl is ↦ is | inr is ↦ omega (arith, signed_arith, is, least, years) ] in
    let begun = inside.0 in
    let P : ℤ → Type 0 = λ y. IsLastYear b y in
    subst P (sym same) (record {
      low = years.0;
      most = years.1;
      begun = inside.0;
      later = λ y there after last. by_lt_z (year +ℤ pos 1) y
          (λ far. let long = year_is_long (year +ℤ pos 1) y (omega (arith, signed_arith, years), omega (arith, signed_arith, years)) far in
          let ahead = inside.1 in omega (arith, signed_arith))
          (λ near. let next : year +ℤ pos 1 ≡ y = omega (arith, signed_arith) in
          let Ahead : ℤ → Type 0 = λ k. b ≤ℤ (days_from_civil k 1 1 *ℤ pos 86400) in
          let ahead = inside.1 in subst Ahead next (omega (arith, signed_arith)));
    }))
    (λ ge.
    let long = year_is_long (pos 9998) (pos 9999) (omega (arith, signed_arith), omega (arith, signed_arith)) (omega (arith, signed_arith)) in
    let not_before : year ≤ℤ pos 9998 → ⊥ = λ le.
    by_lt_z (year +ℤ pos 1) (pos 9999)
    (λ lt. let far = year_is_long (year +ℤ pos 1) (pos 9999) (omega (arith, signed_arith), omega (arith, signed_arith)) lt in
    let ahead = inside.1 in omega (arith, signed_arith, year_9999))
    (λ same_or_more. let next : year +ℤ pos 1 ≡ pos 9999 = omega (arith, signed_arith) in
    let Ahead : ℤ → Type 0 = λ k. b <ℤ (days_from_civil k 1 1 *ℤ pos 86400) in
    let ahead = subst Ahead next inside.1 in omega (arith, signed_arith, year_9999)) in
    let same : here ≡ pos 9998 = elim which [ inl is ↦ absurd (not_before (omega (arith, signed_arith, is, most))) | inr is ↦ is ] in
    let P : ℤ → Type 0 = λ y. IsLastYear b y in
    subst P (sym same) (record {
      low = omega (arith, signed_arith);
      most = omega (arith, signed_arith);
      begun = omega (arith, signed_arith, long, year_9999);
      later = λ y there after last. absurd (omega (arith, signed_arith, after, last));
    }))

pub min_cases : (x y m : ℤ) → m ≡ int_min x y → (m ≤ℤ x) × (m ≤ℤ y) × ((m ≡ x) ⊎ (m ≡ y))
min_cases x y m e =
    by_lt_z x y
    (λ lt. (omega (arith, signed_arith, int_min_is x y), omega (arith, signed_arith, int_min_is x y), inl (omega (arith, signed_arith, int_min_is x y))))
    (λ ge. (omega (arith, signed_arith, int_min_is x y), omega (arith, signed_arith, int_min_is x y), inr (omega (arith, signed_arith, int_min_is x y))))
