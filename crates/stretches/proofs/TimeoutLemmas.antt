-- The order in which connections give way.
use Rattle.std.proofs.Common.{◌≡◌, ℕ, ◌<◌, ◌≤◌, ◌+◌, ◌⊎◌, inl, inr, List, Option, Some, None, true, false, ◌&&◌, ◌==◌, nat_lt}
use Rattle.std.proofs.Common.{refl, sym, ap, subst, ◌∙◌, arith}
use Rattle.std.proofs.lemmas.Option.{none-some, same_Some}
use Rattle.std.proofs.lemmas.Bool.{and_cases, and_left, and_parts, and_right, cases_Bool, eq-eqb, eqb-true, le-ltb, ltb-false, ltb-true}
use Rattle.std.proofs.lemmas.Bool.{or_from, or_parts, true≢false}
use Rattle.stretches.specs.declared.life.Life.{Life}
use Rattle.stretches.specs.Lives.{comes_before, is_before, rank, yields}
use Rattle.stretches.specs.Timeouts.{FirstAmong, HasLife, NoneBefore, NoneYields, is_before_found, is_sooner, life_at}

-- what comes before is less by the first number, or equal by it and less by the second
before_is : (r t s u : ℕ) → is_before r t s u ≡ true → (r < s) ⊎ ((r ≡ s) × (t < u))
before_is r t s u h = by_first (cases_Bool (nat_lt r s))
  where
    by_rest : ((((r == s) && nat_lt t u) ≡ true) ⊎ (((r == s) && nat_lt t u) ≡ false)) → nat_lt r s ≡ false → (r < s) ⊎ ((r ≡ s) × (t < u))
    by_rest (inl e) z = by_equal (cases_Bool (r == s)) (cases_Bool (nat_lt t u))
      where
        by_equal : ((r == s) ≡ true) ⊎ ((r == s) ≡ false) → (nat_lt t u ≡ true) ⊎ (nat_lt t u ≡ false) → (r < s) ⊎ ((r ≡ s) × (t < u))
        by_equal (inl p) (inl q) = inr (eqb-true r s p, ltb-true t u q)
        by_equal (inl p) (inr q) = absurd (true≢false (sym e ∙ and_right (r == s) (nat_lt t u) q))
        by_equal (inr p) q = absurd (true≢false (sym e ∙ and_left (r == s) (nat_lt t u) p))
    by_rest (inr e) z = absurd (true≢false (sym h ∙ or_from (nat_lt r s) ((r == s) && nat_lt t u) z e))

    by_first : (nat_lt r s ≡ true) ⊎ (nat_lt r s ≡ false) → (r < s) ⊎ ((r ≡ s) × (t < u))
    by_first (inl e) = inl (ltb-true r s e)
    by_first (inr e) = by_rest (cases_Bool ((r == s) && nat_lt t u)) e

-- what does not come before is not less by the first number, and where that is equal not by the
-- second
not_before_is : (r t s u : ℕ) → is_before r t s u ≡ false → (s ≤ r) × (r ≡ s → u ≤ t)
not_before_is r t s u h =
    let parts = or_parts (nat_lt r s) ((r == s) && nat_lt t u) h in
    (ltb-false r s parts.0, λ same. by_second (and_cases (r == s) (nat_lt t u) parts.1) same)
  where
    by_second : ((r == s) ≡ false) ⊎ (nat_lt t u ≡ false) → r ≡ s → u ≤ t
    by_second (inl z) same = absurd (true≢false (sym (eq-eqb r s same) ∙ z))
    by_second (inr z) same = ltb-false t u z

-- what does not come before one that comes later does not come before this one
stays : (r t s u p q : ℕ) → is_before r t s u ≡ false → is_before p q s u ≡ true → is_before r t p q ≡ false
stays r t s u p q not_before before =
    or_from (nat_lt r p) ((r == p) && nat_lt t q) (le-ltb r p (first (before_is p q s u before))) (by_equal (cases_Bool (r == p)))
  where
    first : (p < s) ⊎ ((p ≡ s) × (q < u)) → p ≤ r
    first (inl less) = omega (arith, (not_before_is r t s u not_before).0)
    first (inr same) = omega (arith, (not_before_is r t s u not_before).0, same.0)

    second : (p < s) ⊎ ((p ≡ s) × (q < u)) → r ≡ p → q ≤ t
    second (inl less) e = absurd (omega (arith, (not_before_is r t s u not_before).0, e))
    second (inr same) e = omega (arith, (not_before_is r t s u not_before).1 (e ∙ same.0), same.1)

    by_equal : ((r == p) ≡ true) ⊎ ((r == p) ≡ false) → ((r == p) && nat_lt t q) ≡ false
    by_equal (inl e) = and_right (r == p) (nat_lt t q) (le-ltb t q (second (before_is p q s u before) (eqb-true r p e)))
    by_equal (inr e) = and_left (r == p) (nat_lt t q) e

pub sooner_stays : (life found next : Life) → comes_before life found ≡ false → comes_before next found ≡ true → comes_before life next ≡ false
sooner_stays life found next =
    stays (rank life.phase) life.turned (rank found.phase) found.turned (rank next.phase) next.turned

-- ---- one more connection is looked at

-- below the next number there are those below this one, and this one
below_next : (k n : ℕ) → k < n + 1 → (k < n) ⊎ (k ≡ n)
below_next k n h = by (cases_Bool (nat_lt k n))
  where
    by : (nat_lt k n ≡ true) ⊎ (nat_lt k n ≡ false) → (k < n) ⊎ (k ≡ n)
    by (inl e) = inl (ltb-true k n e)
    by (inr e) = inr (omega (arith, h, ltb-false k n e))

-- the life at a place is one
same_life : (lives : List (Option Life)) (n : ℕ) (one other : Life) → HasLife lives n one → HasLife lives n other → one ≡ other
same_life lives n one other a b = same_Some one other (sym a ∙ b)

-- what holds below a place, and there, holds below the next
push : (lives : List (Option Life)) (n now : ℕ) (first : Life) → NoneBefore lives n now first
    → ((life : Life) → HasLife lives n life → yields life now ≡ true → comes_before life first ≡ false)
    → NoneBefore lives (n + 1) now first
push lives n now first none here k below life has may = by (below_next k n below)
  where
    by : (k < n) ⊎ (k ≡ n) → comes_before life first ≡ false
    by (inl less) = none k less life has may
    by (inr same) = here life (subst (λ (i : ℕ). HasLife lives i life) same has) may

-- nothing comes before itself
itself : (r t : ℕ) → is_before r t r t ≡ false
itself r t =
    or_from (nat_lt r r) ((r == r) && nat_lt t t) (le-ltb r r (omega arith)) (and_right (r == r) (nat_lt t t) (le-ltb t t (omega arith)))

not_itself : (one other : Life) → one ≡ other → comes_before other one ≡ false
not_itself one other e = subst (λ (l : Life). comes_before l one ≡ false) e (itself (rank one.phase) one.turned)

-- what is not sooner does not yield, or does not come before
not_sooner : (life : Life) (found : Option (ℕ × Life)) (now : ℕ) → is_sooner life found now ≡ false → yields life now ≡ true
    → is_before_found life found ≡ false
not_sooner life found now e y = by (and_cases (yields life now) (is_before_found life found) e)
  where
    by : (yields life now ≡ false) ⊎ (is_before_found life found ≡ false) → is_before_found life found ≡ false
    by (inl n) = absurd (true≢false (sym y ∙ n))
    by (inr n) = n

pub step_found : (lives : List (Option Life)) (n now : ℕ) (found : Option (ℕ × Life)) (life : Life) → HasLife lives n life → FirstAmong lives n now found
    → is_sooner life found now ≡ true → FirstAmong lives (n + 1) now (Some (n, life))
step_found lives n now None life has none e =
    let parts = and_parts (yields life now) true e in (
      omega arith,
      has,
      parts.0,
      push lives n now life (λ k l other h y. absurd (true≢false (sym y ∙ none k l other h)))
          (λ other h y. not_itself life other (same_life lives n life other has h)),
    )
step_found lives n now (Some first) life has among e =
    let parts = and_parts (yields life now) (comes_before life first.1) e in (
      omega arith,
      has,
      parts.0,
      push lives n now life (λ k l other h y. sooner_stays other first.1 life (among.3 k l other h y) parts.1)
          (λ other h y. not_itself life other (same_life lives n life other has h)),
    )

-- none of those below the next place yields, where none below this one does, nor one here
none_yields : (lives : List (Option Life)) (n now : ℕ) → NoneYields lives n now
    → ((other : Life) → HasLife lives n other → yields other now ≡ false) → NoneYields lives (n + 1) now
none_yields lives n now none here k below other h = by (below_next k n below)
  where
    by : (k < n) ⊎ (k ≡ n) → yields other now ≡ false
    by (inl less) = none k less other h
    by (inr same) = here other (subst (λ (i : ℕ). HasLife lives i other) same h)

-- one that is not sooner than none does not yield
not_at_all : (life : Life) (now : ℕ) → is_sooner life None now ≡ false → yields life now ≡ false
not_at_all life now e = by (cases_Bool (yields life now))
  where
    by : (yields life now ≡ true) ⊎ (yields life now ≡ false) → yields life now ≡ false
    by (inl y) = absurd (true≢false (not_sooner life None now e y))
    by (inr n) = n

pub step_kept : (lives : List (Option Life)) (n now : ℕ) (found : Option (ℕ × Life)) (life : Life) → HasLife lives n life → FirstAmong lives n now found
    → is_sooner life found now ≡ false → FirstAmong lives (n + 1) now found
step_kept lives n now None life has none e =
    none_yields lives n now none
    (λ other h. subst (λ (l : Life). yields l now ≡ false) (same_life lives n life other has h) (not_at_all life now e))
step_kept lives n now (Some first) life has among e = (
  omega (arith, among.0),
  among.1,
  among.2,
  push lives n now first.1 among.3
      (λ other h y. let is = same_life lives n life other has h in
      subst (λ (l : Life). comes_before l first.1 ≡ false) is
      (not_sooner life (Some first) now e (subst (λ (l : Life). yields l now ≡ true) (sym is) y))),
)

pub step_none : (lives : List (Option Life)) (n now : ℕ) (found : Option (ℕ × Life)) → life_at lives n ≡ None → FirstAmong lives n now found
    → FirstAmong lives (n + 1) now found
step_none lives n now None is none = none_yields lives n now none (λ other h. absurd (none-some other (sym is ∙ h)))
step_none lives n now (Some first) is among =
    (omega (arith, among.0), among.1, among.2, push lives n now first.1 among.3 (λ other h y. absurd (none-some other (sym is ∙ h))))
