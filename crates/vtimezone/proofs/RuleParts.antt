-- The rule parts are those of a footer's changes.
use Rattle.std.proofs.Common.{◌≡◌, ℕ, zero, suc, ◌<◌, ◌⊎◌, true, false, inl, inr, refl, sym, subst, ◌∙◌, arith, ℤ, pos, ◌+ℤ◌, ◌-ℤ◌, ◌*ℤ◌, ◌≤ℤ◌, ◌<ℤ◌, int_lt}
use Rattle.std.proofs.Common.{unsigned_abs, Option, None, Some, [], ◌∷◌, ◌++◌}
use Rattle.std.specs.List.{Contains}
use Rattle.std.proofs.lemmas.Bool.{cond_both, cases_order}
use Rattle.std.proofs.lemmas.List.Elements.{Contains-append_left, Contains-append_right, Contains-append_cases, Contains-push_cases}
use Rattle.std.proofs.lemmas.Int.{by_lt_z}
use Rattle.jiff_core.specs.Calendar.{days_from_civil, IsYear, IsBetween}
use Rattle.jiff_core.proofs.SignedLemmas.{signed_arith, one_part}
use Rattle.td_civil.specs.declared.moment_type.Moment.{Moment}
use Rattle.td_civil.specs.declared.local_time.Local.{Local}
use Rattle.posix_footer.specs.declared.rule_types.Edge.{Edge}
use Rattle.posix_footer.specs.declared.rule_types.Edge.TheVariants as edge
use Rattle.posix_footer.specs.declared.rule_types.DstRule.{DstRule}
use Rattle.posix_footer.specs.Lawful.{IsLawfulRule}
use Rattle.posix_footer.specs.Onset.{onset_of}
use Rattle.posix_footer.proofs.lemmas.StateLemmas.{onset_rises}
use Rattle.recurrence.specs.declared.part_types.Part.{Part}
use Rattle.posix_footer.specs.Carried.{is_carried_rule}
use Rattle.vtimezone.proofs.lemmas.Whole.{IsLastBefore, IsUntil, IsRulePart, AreRuleParts}
use Rattle.vtimezone.specs.Ranges.{IsBeforeEnd}
use Rattle.vtimezone.specs.PartsOf.{last_before, rule_part, part_until, rule_part_if, rule_parts}
use Rattle.recurrence.proofs.lemmas.InYear.{onset_in_year, onsets_ordered}

in_none : (p : Part) → Contains [] p → ⊥
in_none p there = let lt = there.1 in omega arith

in_one : (x p : Part) → Contains (x ∷ []) p → p ≡ x
in_one x p there = elim (Contains-push_cases [] x p there) [ inl none_there ↦ absurd (in_none p none_there) | inr is ↦ sym is ]

of_one : (x : Part) → Contains (x ∷ []) x
of_one x = (0, omega arith, refl)

lt_is : (x y : ℤ) → int_lt x y ≡ true → x <ℤ y
lt_is x y e = omega (arith, signed_arith)

ge_is : (x y : ℤ) → int_lt x y ≡ false → y ≤ℤ x
ge_is x y e = omega (arith, signed_arith)

module _ (rule : DstRule) (std : ℤ) (at : Edge) (y0 b : ℤ) (h : IsLawfulRule std rule) (year0 : IsBetween (pos 1799) (pos 9998) y0) where
  -- what the last onset of n years is
  record IsLastOf (n : ℕ) (u : ℤ) : Type 0 where
    pub before : u <ℤ b
    pub greatest : (k : ℕ) → k < n → onset_of rule std (y0 +ℤ pos k) at <ℤ b → onset_of rule std (y0 +ℤ pos k) at ≤ℤ u

  abbrev Says : ℕ → Option Moment → Type 0
  Says n None = (k : ℕ) → k < n → b ≤ℤ onset_of rule std (y0 +ℤ pos k) at
  Says n (Some u) = IsLastOf n u.seconds

  rises : (j k : ℕ) → j < k → (y0 +ℤ pos k) ≤ℤ pos 9998 → onset_of rule std (y0 +ℤ pos j) at <ℤ onset_of rule std (y0 +ℤ pos k) at
  rises j k lt high =
      let range = year0 in
      onset_rises rule std (y0 +ℤ pos j) (y0 +ℤ pos k) at h (omega (arith, signed_arith), omega (arith, signed_arith))
      (omega (arith, signed_arith), omega (arith, signed_arith)) (omega (arith, signed_arith))

  -- one year more, whose onset does not come before b
  says_more : (n : ℕ) (o : Option Moment) → b ≤ℤ onset_of rule std (y0 +ℤ pos n) at → Says n o → Says (suc n) o
  says_more n None late says = λ k lt. elim (cases_order k n) [
    | inl same ↦ let P : ℕ → Type 0 = λ j. b ≤ℤ onset_of rule std (y0 +ℤ pos j) at in subst P (sym same) late
    | inr (inl less) ↦ says k less
    | inr (inr more) ↦ absurd (omega arith)
  ]
  says_more n (Some u) late says = record {
    before = says.before;
    greatest = λ k lt early. elim (cases_order k n) [
      | inl same ↦
          let P : ℕ → Type 0 = λ j. b ≤ℤ onset_of rule std (y0 +ℤ pos j) at in
          let not_early = subst P (sym same) late in
          absurd (omega (arith, signed_arith))
      | inr (inl less) ↦ says.greatest k less early
      | inr (inr more) ↦ absurd (omega arith)
    ];
  }

  last_says : (n : ℕ) → (y0 +ℤ pos n) ≤ℤ pos 9999 → Says n (last_before rule std at y0 b n)
  unfolding last_before
  last_says zero high = λ k lt. absurd (omega arith)
  last_says (suc n) high =
      cond_both (int_lt (onset_of rule std (y0 +ℤ pos n) at) b) (Some (record { seconds = onset_of rule std (y0 +ℤ pos n) at }))
      (last_before rule std at y0 b n) (Says (suc n))
      (λ early. record {
        before = lt_is (onset_of rule std (y0 +ℤ pos n) at) b early;
        greatest = λ k lt before. elim (cases_order k n) [
          | inl same ↦
              let P : ℕ → Type 0 = λ j. onset_of rule std (y0 +ℤ pos j) at ≤ℤ onset_of rule std (y0 +ℤ pos n) at in
              subst P (sym same) (omega (arith, signed_arith))
          | inr (inl less) ↦ let rise = rises k n less (omega (arith, signed_arith)) in omega (arith, signed_arith)
          | inr (inr more) ↦ absurd (omega arith)
        ];
      })
      (λ late. says_more n (last_before rule std at y0 b n) (ge_is (onset_of rule std (y0 +ℤ pos n) at) b late) (last_says n (omega (arith, signed_arith))))

module _ (std : Local) (rule : DstRule) (y0 : ℤ) (h : IsLawfulRule std.offset rule) (carried : is_carried_rule rule ≡ true)
    (year0 : IsBetween (pos 1799) (pos 9998) y0) where
  -- the bound is one that has a meaning
  abbrev pub IsMeant : Option ℤ → Type 0
  IsMeant None = Unit {0}
  IsMeant (Some b) = b ≤ℤ (days_from_civil (pos 9999) 1 1 *ℤ pos 86400)

  years_is : y0 +ℤ pos (unsigned_abs (pos 9999 -ℤ y0)) ≡ pos 9999
  years_is = let range = year0 in omega (arith, signed_arith, one_part (pos 9999 -ℤ y0))

  -- an onset before b is that of a year that is looked at
  looked_at : (at : Edge) (b y : ℤ) → IsMeant (Some b) → IsYear y → y0 ≤ℤ y → onset_of rule std.offset y at <ℤ b
      → (k : ℕ) × ((k < unsigned_abs (pos 9999 -ℤ y0)) × (y ≡ y0 +ℤ pos k))
  looked_at at b y meant year from early =
      let k = unsigned_abs (y -ℤ y0) in
      let is : y ≡ y0 +ℤ pos k = omega (arith, signed_arith, one_part (y -ℤ y0)) in
      by_lt_z y (pos 9999)
      (λ lt. (k, (omega (arith, signed_arith, years_is, is), is)))
      (λ ge.
      let last : y ≡ pos 9999 = omega (arith, signed_arith) in
      let P : ℤ → Type 0 = λ z. (days_from_civil z 1 1 *ℤ pos 86400) ≤ℤ onset_of rule std.offset y at in
      let late = subst P last (onset_in_year rule std.offset y at h year carried).0 in
      absurd (omega (arith, signed_arith, late, meant, early)))

  until_of : (at : Edge) (b u : ℤ) → IsMeant (Some b) → IsLastOf rule std.offset at y0 b h year0 (unsigned_abs (pos 9999 -ℤ y0)) u
      → IsLastBefore rule std.offset at y0 b u
  until_of at b u meant last = record {
    before = last.before;
    greatest = λ y year from early.
        let found = looked_at at b y meant year from early in
        let Early : ℤ → Type 0 = λ z. onset_of rule std.offset z at <ℤ b in
        let Least : ℤ → Type 0 = λ z. onset_of rule std.offset z at ≤ℤ u in
        subst Least (sym found.1.1) (last.greatest found.0 found.1.0 (subst Early found.1.1 early));
  }

  part_is : (b : Option ℤ) (at : Edge) (until : Option Moment) → IsUntil rule std.offset at y0 b until
      → IsRulePart std rule y0 b at (rule_part std rule y0 at until)
  unfolding rule_part
  part_is b at until is = record { rule_is = refl; from_is = refl; start_is = refl; state_is = refl; until_is = is }

  in_until : (at : Edge) (b : ℤ) (o : Option Moment) (p : Part) → IsMeant (Some b) → Says rule std.offset at y0 b h year0 (unsigned_abs (pos 9999 -ℤ y0)) o
      → Contains (part_until std rule y0 at o) p → IsRulePart std rule y0 (Some b) at p
  in_until at b None p meant says there = absurd (in_none p there)
  in_until at b (Some u) p meant says there =
      let P : Part → Type 0 = λ q. IsRulePart std rule y0 (Some b) at q in
      let is : IsUntil rule std.offset at y0 (Some b) (Some u) = (u, refl, until_of at b u.seconds meant says) in
      subst P (sym (in_one _ p there)) (part_is (Some b) at (Some u) is)

  in_if : (b : Option ℤ) (at : Edge) (p : Part) → IsMeant b → Contains (rule_part_if std rule y0 b at) p → IsRulePart std rule y0 b at p
  in_if None at p meant there =
      let P : Part → Type 0 = λ q. IsRulePart std rule y0 None at q in
      subst P (sym (in_one _ p there)) (part_is None at None refl)
  in_if (Some b) at p meant there =
      in_until at b _ p meant (last_says rule std.offset at y0 b h year0 (unsigned_abs (pos 9999 -ℤ y0)) (omega (arith, signed_arith, years_is))) there

  one_until : (at : Edge) (o : Option Moment) (p q : Part) → Contains (part_until std rule y0 at o) p → Contains (part_until std rule y0 at o) q → p ≡ q
  one_until at None p q x y = absurd (in_none p x)
  one_until at (Some u) p q x y = in_one _ p x ∙ sym (in_one _ q y)

  one_if : (b : Option ℤ) (at : Edge) (p q : Part) → Contains (rule_part_if std rule y0 b at) p → Contains (rule_part_if std rule y0 b at) q → p ≡ q
  one_if None at p q x y = in_one _ p x ∙ sym (in_one _ q y)
  one_if (Some b) at p q x y = one_until at _ p q x y

  some_until : (at : Edge) (b : ℤ) (o : Option Moment) → onset_of rule std.offset y0 at <ℤ b
      → Says rule std.offset at y0 b h year0 (unsigned_abs (pos 9999 -ℤ y0)) o → (p : Part) × Contains (part_until std rule y0 at o) p
  some_until at b None early says =
      let range = year0 in
      let same : y0 +ℤ pos 0 ≡ y0 = omega (arith, signed_arith) in
      let P : ℤ → Type 0 = λ z. b ≤ℤ onset_of rule std.offset z at in
      let late = subst P same (says 0 (omega (arith, signed_arith, years_is))) in
      absurd (omega (arith, signed_arith, late, early))
  some_until at b (Some u) early says = (rule_part std rule y0 at (Some u), of_one _)

  some_if : (b : Option ℤ) (at : Edge) → IsBeforeEnd b (onset_of rule std.offset y0 at) → (p : Part) × Contains (rule_part_if std rule y0 b at) p
  some_if None at before = (rule_part std rule y0 at None, of_one _)
  some_if (Some b) at before =
      some_until at b _ before (last_says rule std.offset at y0 b h year0 (unsigned_abs (pos 9999 -ℤ y0)) (omega (arith, signed_arith, years_is)))

  apart : (b : Option ℤ) (p : Part) → IsRulePart std rule y0 b edge.Start p → IsRulePart std rule y0 b edge.End p → ⊥
  apart b p start end =
      let s = start.start_is in
      let e = end.start_is in
      elim (onsets_ordered rule std.offset h carried) [
        | inl ordered ↦ let lt = ordered.order y0 in omega (arith, signed_arith, s, e, lt)
        | inr ordered ↦ let lt = ordered.order y0 in omega (arith, signed_arith, s, e, lt)
      ]

  -- a part of either list is the change's own
  own : (b : Option ℤ) (is at : Edge) (p : Part) → IsRulePart std rule y0 b is p → IsRulePart std rule y0 b at p → is ≡ at
  own b edge.Start edge.Start p x y = refl
  own b edge.Start edge.End p x y = absurd (apart b p x y)
  own b edge.End edge.Start p x y = absurd (apart b p y x)
  own b edge.End edge.End p x y = refl

  listed : (b : Option ℤ) (first second : Edge) → IsMeant b → ((at : Edge) → (at ≡ first) ⊎ (at ≡ second))
      → AreRuleParts std rule y0 b (Contains (rule_part_if std rule y0 b first ++ rule_part_if std rule y0 b second))
  listed b first second meant both =
      let xs = rule_part_if std rule y0 b first in
      let ys = rule_part_if std rule y0 b second in
      let In : Edge → Part → Type 0 = λ at p. Contains (rule_part_if std rule y0 b at) p in
      let owner : (at : Edge) (p : Part) → Contains (xs ++ ys) p → IsRulePart std rule y0 b at p → In at p =
      λ at p there is. elim (Contains-append_cases xs ys p there) [
        | inl left ↦ let e = own b first at p (in_if b first p meant left) is in subst (λ k. In k p) e left
        | inr right ↦ let e = own b second at p (in_if b second p meant right) is in subst (λ k. In k p) e right
      ] in
      record {
        each = λ p there. elim (Contains-append_cases xs ys p there) [
          | inl left ↦ (first, in_if b first p meant left)
          | inr right ↦ (second, in_if b second p meant right)
        ];
        some = λ at before.
            let found = some_if b at before in
            let is = in_if b at found.0 meant found.1 in
            elim (both at) [
              | inl left ↦ (found.0, (Contains-append_left xs ys found.0 (subst (λ k. In k found.0) left found.1), is))
              | inr right ↦ (found.0, (Contains-append_right xs ys found.0 (subst (λ k. In k found.0) right found.1), is))
            ];
        one = λ p q at p_there q_there p_is q_is. one_if b at p q (owner at p p_there p_is) (owner at q q_there q_is);
      }

  start_end : (at : Edge) → (at ≡ edge.Start) ⊎ (at ≡ edge.End)
  start_end edge.Start = inl refl
  start_end edge.End = inr refl

  end_start : (at : Edge) → (at ≡ edge.End) ⊎ (at ≡ edge.Start)
  end_start edge.Start = inr refl
  end_start edge.End = inl refl

  pub are_rule_parts : (b : Option ℤ) → IsMeant b → AreRuleParts std rule y0 b (Contains (rule_parts std rule y0 b))
  unfolding rule_parts
  are_rule_parts b meant =
      cond_both (int_lt (onset_of rule std.offset y0 edge.Start) (onset_of rule std.offset y0 edge.End)) _ _
      (λ xs. AreRuleParts std rule y0 b (Contains xs))
      (λ lt. listed b edge.Start edge.End meant start_end)
      (λ ge. listed b edge.End edge.Start meant end_start)
