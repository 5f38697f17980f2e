-- The newest change by a moment, of both edges and all years.
use Rattle.std.proofs.Common.{◌≡◌, ◌⊎◌, true, inl, inr, refl, sym, subst, ap, ◌∙◌, arith, ℤ, pos, ◌+ℤ◌, ◌≤ℤ◌, ◌<ℤ◌, Some}
use Rattle.std.proofs.lemmas.Int.{by_lt_z}
use Rattle.jiff_core.specs.Calendar.{IsYear, IsBetween}
use Rattle.jiff_core.proofs.SignedLemmas.{signed_arith}
use Rattle.td_civil.specs.Calendar.{IsInYear}
use Rattle.td_civil.specs.declared.local_time.Local.{Local}
use Rattle.posix_footer.specs.declared.rule_types.Edge.{Edge}
use Rattle.posix_footer.specs.declared.rule_types.Edge.TheVariants as edge
use Rattle.posix_footer.specs.declared.rule_types.DstRule.{DstRule}
use Rattle.posix_footer.specs.Lawful.{IsLawfulRule}
use Rattle.posix_footer.specs.Onset.{onset_of}
use Rattle.posix_footer.specs.StateAt.{IsLastChange, state_by, state_after}
use Rattle.td_civil.proofs.lemmas.Years.{years_apart_lem}
use Rattle.posix_footer.proofs.lemmas.ChangeLemmas.{daylight_after_start, standard_after_end}
use Rattle.posix_footer.specs.Carried.{is_carried_rule}
use Rattle.recurrence.proofs.lemmas.InYear.{AreOrdered, onset_in_year}

-- every other change by t comes before this one
pub record IsNewest (rule : DstRule) (std t y : ℤ) (at : Edge) : Type 0 where
  pub year : IsYear y
  pub begun : onset_of rule std y at ≤ℤ t
  pub newest : (other : ℤ) (a : Edge) → IsYear other → onset_of rule std other a ≤ℤ t
      → (onset_of rule std other a <ℤ onset_of rule std y at) ⊎ ((other ≡ y) × (a ≡ at))

newest_of : (rule : DstRule) (std t y : ℤ) (at : Edge) → IsYear y → ((other : ℤ) (a : Edge) → IsYear other → IsInYear other (onset_of rule std other a))
    → onset_of rule std y at ≤ℤ t
    → ((other : ℤ) (a : Edge) → IsYear other → y <ℤ other → t <ℤ onset_of rule std other a)
    → ((a : Edge) → onset_of rule std y a ≤ℤ t → (onset_of rule std y a <ℤ onset_of rule std y at) ⊎ (a ≡ at))
    → IsNewest rule std t y at
newest_of rule std t y at year inside begun later here = record {
  year = year;
  begun = begun;
  newest = λ other a there before. by_lt_z other y
      (λ lt. inl (years_apart_lem other y (onset_of rule std other a) (onset_of rule std y at) there year (inside other a there) (inside y at year) lt))
      (λ le. by_lt_z y other
      (λ gt. let late = later other a there gt in absurd (omega (arith, signed_arith)))
      (λ ge. let same : other ≡ y = omega (arith, signed_arith) in
      let At : ℤ → Type 0 = λ k. onset_of rule std k a ≤ℤ t in
      let Result : ℤ → Type 0 = λ k. (onset_of rule std k a <ℤ onset_of rule std y at) ⊎ ((k ≡ y) × (a ≡ at)) in
      let found : (onset_of rule std y a <ℤ onset_of rule std y at) ⊎ ((y ≡ y) × (a ≡ at)) = elim
      (here a (subst At same before)) [ inl lt ↦ inl lt | inr is ↦ inr (refl, is) ] in
      subst Result (sym same) found));
}

-- the onsets of later years are after a moment of the year
later_is_after : (rule : DstRule) (std t y : ℤ) → IsYear y → IsInYear y t
    → ((other : ℤ) (a : Edge) → IsYear other → IsInYear other (onset_of rule std other a)) → (other : ℤ) (a : Edge) → IsYear other → y <ℤ other
    → t <ℤ onset_of rule std other a
later_is_after rule std t y year here inside other a there lt =
    years_apart_lem y other t (onset_of rule std other a) year there here (inside other a there) lt

module _ (rule : DstRule) (std : ℤ) (first second : Edge) (h : IsLawfulRule std rule) (carried : is_carried_rule rule ≡ true)
    (ordered : AreOrdered rule std first second) where
  inside : (other : ℤ) (a : Edge) → IsYear other → IsInYear other (onset_of rule std other a)
  inside other a year = onset_in_year rule std other a h year carried

  -- from the second change of a year on it is that one
  pub newest_second : (t y : ℤ) → IsYear y → IsInYear y t → onset_of rule std y second ≤ℤ t → IsNewest rule std t y second
  newest_second t y year here begun =
      newest_of rule std t y second year inside begun (later_is_after rule std t y year here inside)
      (λ a before. elim (ordered.both a) [
        | inl is ↦
            let P : Edge → Type 0 = λ k. (onset_of rule std y k <ℤ onset_of rule std y second) ⊎ (k ≡ second) in
            subst P (sym is) (inl (ordered.order y))
        | inr is ↦ inr is
      ])

  -- between the two it is the first
  pub newest_first : (t y : ℤ) → IsYear y → IsInYear y t → onset_of rule std y first ≤ℤ t → t <ℤ onset_of rule std y second → IsNewest rule std t y first
  newest_first t y year here begun before_second =
      newest_of rule std t y first year inside begun (later_is_after rule std t y year here inside)
      (λ a before. elim (ordered.both a) [
        | inl is ↦ inr is
        | inr is ↦
            let P : Edge → Type 0 = λ k. onset_of rule std y k ≤ℤ t in
            let not_yet = subst P is before in
            absurd (omega (arith, signed_arith))
      ])

  -- and before both it is the second one of the year before
  pub newest_before : (t y last : ℤ) → IsYear y → IsYear last → y ≡ last +ℤ pos 1 → IsInYear y t → t <ℤ onset_of rule std y first
      → IsNewest rule std t last second
  newest_before t y last year there next here early =
      let in_last = inside last second there in
      let begun : onset_of rule std last second ≤ℤ t =
      let lt = years_apart_lem last y (onset_of rule std last second) t there year in_last here (omega (arith, signed_arith)) in omega
      (arith, signed_arith) in
      newest_of rule std t last second there inside begun
      (λ other a that lt. by_lt_z y other
      (λ far. later_is_after rule std t y year here inside other a that far)
      (λ near. let same : y ≡ other = omega (arith, signed_arith) in
      let At : ℤ → Type 0 = λ k. t <ℤ onset_of rule std k a in
      let order = ordered.order y in
      let at_y : t <ℤ onset_of rule std y a = elim (ordered.both a) [
        | inl is ↦ let P : Edge → Type 0 = λ k. t <ℤ onset_of rule std y k in subst P (sym is) early
        | inr is ↦ let P : Edge → Type 0 = λ k. t <ℤ onset_of rule std y k in subst P (sym is) (omega (arith, signed_arith))
      ] in
      subst At same at_y))
      (λ a before. elim (ordered.both a) [
        | inl is ↦
            let P : Edge → Type 0 = λ k. (onset_of rule std last k <ℤ onset_of rule std last second) ⊎ (k ≡ second) in
            subst P (sym is) (inl (ordered.order last))
        | inr is ↦ inr is
      ])

start_is_no_end : edge.Start ≡ edge.End → ⊥
start_is_no_end e = cc

-- the newest change is the last one, and decides the state
pub newest_is_last : (rule : DstRule) (std t y : ℤ) (at : Edge) → IsBetween (pos 1798) (pos 9999) y → IsNewest rule std t y at → IsLastChange rule std t at
newest_is_last rule std t y at there is = record {
  year = y;
  year_in = there;
  begun = is.begun;
  last = λ other a that before. elim (is.newest other a (omega (arith, signed_arith), omega (arith, signed_arith)) before) [
    | inl lt ↦ omega (arith, signed_arith)
    | inr same ↦
        let P : ℤ → Type 0 = λ m. m ≤ℤ onset_of rule std y at in
        let equal : onset_of rule std other a ≡ onset_of rule std y at = ap (λ k. onset_of rule std k a) same.0 ∙ ap (onset_of rule std y) same.1 in
        omega (arith, signed_arith, equal)
  ];
  start_counts = λ e other that same. elim
      (is.newest other edge.Start (omega (arith, signed_arith), omega (arith, signed_arith)) (let begun = is.begun in omega (arith, signed_arith, same))) [
        | inl lt ↦ absurd (omega (arith, signed_arith, same))
        | inr equal ↦ start_is_no_end (equal.1 ∙ e)
      ];
}

state_of_last : (std : Local) (rule : DstRule) (t : ℤ) (at : Edge) → IsLastChange rule std.offset t at
    → state_by std (Some rule) t ≡ state_after std rule at
state_of_last std rule t edge.Start is = let yes = daylight_after_start rule std.offset t is in rw yes refl
state_of_last std rule t edge.End is = let no = standard_after_end rule std.offset t is in rw no refl

pub state_of_newest : (std : Local) (rule : DstRule) (t y : ℤ) (at : Edge) → IsBetween (pos 1798) (pos 9999) y → IsNewest rule std.offset t y at
    → state_by std (Some rule) t ≡ state_after std rule at
state_of_newest std rule t y at there is =
    state_of_last std rule t at (newest_is_last rule std.offset t y at there is)
