-- A list of a range's observances is determined by its members, and the last of them by a moment
-- tells the state then.
use Rattle.std.proofs.Common.{◌≡◌, ◌≢◌, ◌⊎◌, ℕ, zero, suc, List, [], ◌∷◌, true, false, inl, inr, refl, sym, subst, ap, ◌∙◌, arith, ℤ, pos, ◌+ℤ◌, ◌-ℤ◌, ◌≤ℤ◌}
use Rattle.std.proofs.Common.{◌<ℤ◌, unsigned_abs}
use Rattle.std.specs.List.{Contains}
use Rattle.std.proofs.lemmas.Int.{by_lt_z}
use Rattle.jiff_core.proofs.SignedLemmas.{signed_arith, one_part}
use Rattle.td_civil.specs.SameLocal.{same_local}
use Rattle.td_civil.specs.declared.local_time.Local.{Local}
use Rattle.td_civil.specs.declared.local_time.Observance.{Observance}
use Rattle.td_civil.proofs.lemmas.SameStates.{same_local_is, other_local}
use Rattle.zone_meaning.specs.Observed.{change_at, first_at, observed}
use Rattle.zone_meaning.specs.RangeLaws.{AreRisingAfter, AreObserved, IsLastBy, state_told}
use Rattle.zone_meaning.proofs.lemmas.Members.{member_first, member_later, member_cases, no_member}
use Rattle.zone_meaning.proofs.lemmas.RangeLemmas.{change_onset, first_onset, change_told, first_told, member_after, one_onset, are_observed}

-- whether a state changes at a moment
changes_or_not : (state : ℤ → Local) (t u : ℤ) → (state t ≡ state u) ⊎ (state t ≢ state u)
changes_or_not state t u = elim (same_local (state t) (state u)) as (λ b. same_local (state t) (state u) ≡ b → (state t ≡ state u) ⊎ (state t ≢ state u)) [
  | true ↦ λ e. inl (same_local_is (state t) (state u) e)
  | false ↦ λ e. inr (other_local (state t) (state u) e)
] refl

-- what one list has, the other has
abbrev HasAll : List Observance → List Observance → Type 0
HasAll xs ys = (o : Observance) → Contains xs o → Contains ys o

in_other : (state : ℤ → Local) (a b : ℤ) (xs ys : List Observance) → AreObserved state a b xs → AreObserved state a b ys → HasAll xs ys
in_other state a b xs ys x y o there =
    elim (x.each o there) [
      | inl first ↦ (let P : Observance → Type 0 = λ p. Contains ys p in subst P (sym first) y.first)
      | inr change ↦
          let P : Observance → Type 0 = λ p. Contains ys p in
          subst P (sym change.change_is) (y.every change.moment change.after change.before change.changes)
    ]

not_before : (t : ℤ) (x y : Observance) (xs ys : List Observance) → AreRisingAfter t (x ∷ xs) → AreRisingAfter t (y ∷ ys) → HasAll (x ∷ xs) (y ∷ ys)
    → y.onset.seconds ≤ℤ x.onset.seconds
not_before t x y xs ys up also all =
    elim (member_cases y x ys (all x (member_first x xs))) [
      | inl same ↦ (let onset : y.onset.seconds ≡ x.onset.seconds = ap (λ (o : Observance). o.onset.seconds) same in omega (arith, signed_arith, onset))
      | inr later ↦ (let after = member_after y.onset.seconds ys x also.1 later in omega (arith, signed_arith))
    ]

first_same : (t : ℤ) (x y : Observance) (xs ys : List Observance) → AreRisingAfter t (x ∷ xs) → AreRisingAfter t (y ∷ ys) → HasAll (x ∷ xs) (y ∷ ys)
    → HasAll (y ∷ ys) (x ∷ xs) → x ≡ y
first_same t x y xs ys up also all back =
    let one = not_before t x y xs ys up also all in
    let two = not_before t y x ys xs also up back in
    one_onset t (y ∷ ys) x y also (all x (member_first x xs)) (member_first y ys) (omega (arith, signed_arith))

rest_has : (t : ℤ) (x y : Observance) (xs ys : List Observance) → x ≡ y → AreRisingAfter t (x ∷ xs) → HasAll (x ∷ xs) (y ∷ ys) → HasAll xs ys
rest_has t x y xs ys same up all o there =
    elim (member_cases y o ys (all o (member_later x o xs there))) [
      | inl is ↦
          let after = member_after x.onset.seconds xs o up.1 there in
          let onset : x.onset.seconds ≡ o.onset.seconds = ap (λ (p : Observance). p.onset.seconds) (same ∙ is) in
          absurd (omega (arith, signed_arith, onset))
      | inr later ↦ later
    ]

pub same_members : (t : ℤ) (xs ys : List Observance) → AreRisingAfter t xs → AreRisingAfter t ys → HasAll xs ys → HasAll ys xs → xs ≡ ys
same_members t [] [] up also all back = refl
same_members t [] (y ∷ ys) up also all back = absurd (no_member y (back y (member_first y ys)))
same_members t (x ∷ xs) [] up also all back = absurd (no_member x (all x (member_first x xs)))
same_members t (x ∷ xs) (y ∷ ys) up also all back =
    let same = first_same t x y xs ys up also all back in
    let P : Observance → Type 0 = λ p. AreRisingAfter p.onset.seconds ys in
    let rest = same_members x.onset.seconds xs ys up.1 (subst P (sym same) also.1) (rest_has t x y xs ys same up all)
    (rest_has t y x ys xs (sym same) also back) in
    ap (λ p. p ∷ xs) same ∙ ap (λ os. y ∷ os) rest

-- at most one list is that of the observances of a range
pub one_list : (state : ℤ → Local) (a b : ℤ) (xs ys : List Observance) → AreObserved state a b xs → AreObserved state a b ys → xs ≡ ys
one_list state a b xs ys x y =
    same_members (a -ℤ pos 1) xs ys x.rising y.rising (in_other state a b xs ys x y) (in_other state a b ys xs y x)

-- the last by t, with the state that it tells of
record IsTold (state : ℤ → Local) (list : List Observance) (t : ℤ) : Type 0 where
  pub observance : Observance
  pub last : IsLastBy list t observance
  pub told : state_told observance ≡ state t

now_told : (state : ℤ → Local) (list : List Observance) (t : ℤ) (o : Observance) → Contains list o → o.onset.seconds ≡ t → state_told o ≡ state t
    → IsTold state list t
now_told state list t o there onset told = record {
  observance = o;
  last = record {
    there = there;
    begun = omega (arith, signed_arith, onset);
    last = λ other also begun. omega (arith, signed_arith, onset, begun);
  };
  told = told;
}

-- one that is not after t, in a list without a change at t, is not after the second before
not_now : (state : ℤ → Local) (a b : ℤ) (list : List Observance) → AreObserved state a b list → (t : ℤ) → a <ℤ t → state t ≡ state (t -ℤ pos 1)
    → (o : Observance) → Contains list o → o.onset.seconds ≤ℤ t → o.onset.seconds ≤ℤ (t -ℤ pos 1)
not_now state a b list is t low same o there begun =
    by_lt_z o.onset.seconds t
    (λ lt. omega (arith, signed_arith))
    (λ ge. elim (is.each o there) [
      | inl first ↦
          let onset : o.onset.seconds ≡ a = ap (λ (p : Observance). p.onset.seconds) first ∙ first_onset state a in
          absurd (omega (arith, signed_arith, onset))
      | inr change ↦
          let onset : o.onset.seconds ≡ change.moment = ap (λ (p : Observance). p.onset.seconds) change.change_is ∙ change_onset state change.moment in
          let now : change.moment ≡ t = omega (arith, signed_arith, onset) in
          absurd (change.changes (ap state now ∙ same ∙ sym (ap (λ k. state (k -ℤ pos 1)) now)))
    ])

still_told : (state : ℤ → Local) (a b : ℤ) (list : List Observance) → AreObserved state a b list → (t : ℤ) → a <ℤ t → state t ≡ state (t -ℤ pos 1)
    → IsTold state list (t -ℤ pos 1) → IsTold state list t
still_told state a b list is t low same before =
    let begun = before.last.begun in
    record {
      observance = before.observance;
      last = record {
        there = before.last.there;
        begun = omega (arith, signed_arith);
        last = λ other also late. before.last.last other also (not_now state a b list is t low same other also late);
      };
      told = before.told ∙ sym same;
    }

told_by : (state : ℤ → Local) (a b : ℤ) (list : List Observance) → AreObserved state a b list → (k : ℕ) (t : ℤ) → t ≡ a +ℤ pos k → t <ℤ b → IsTold state list t
told_by state a b list is zero t at before =
    let now : a ≡ t = omega (arith, signed_arith, at) in
    now_told state list t (first_at state a) is.first (first_onset state a ∙ now) (first_told state a ∙ ap state now)
told_by state a b list is (suc k) t at before =
    elim (changes_or_not state t (t -ℤ pos 1)) [
      | inl same ↦
          still_told state a b list is t (omega (arith, signed_arith, at)) same
          (told_by state a b list is k (t -ℤ pos 1) (omega (arith, signed_arith, at)) (omega (arith, signed_arith)))
      | inr changes ↦
          now_told state list t (change_at state t) (is.every t (omega (arith, signed_arith, at)) before changes) (change_onset state t) (change_told state t)
    ]

told_at : (state : ℤ → Local) (a b : ℤ) (list : List Observance) → AreObserved state a b list → (t : ℤ) → a ≤ℤ t → t <ℤ b → IsTold state list t
told_at state a b list is t low high =
    told_by state a b list is (unsigned_abs (t -ℤ a)) t (omega (arith, signed_arith, one_part (t -ℤ a))) high

-- of the moments of a range each has a last observance
pub some_last : (state : ℤ → Local) (a b t : ℤ) → a ≤ℤ t → t <ℤ b → (o : Observance) × IsLastBy (observed state a b) t o
some_last state a b t low high =
    let told = told_at state a b (observed state a b) (are_observed state a b (omega (arith, signed_arith))) t low high in
    (told.observance, told.last)

-- which tells the state
pub last_tells : (state : ℤ → Local) (a b t : ℤ) (o : Observance) → a ≤ℤ t → t <ℤ b → IsLastBy (observed state a b) t o → state_told o ≡ state t
last_tells state a b t o low high last =
    let list = observed state a b in
    let is = are_observed state a b (omega (arith, signed_arith)) in
    let told = told_at state a b list is t low high in
    let one = last.last told.observance told.last.there told.last.begun in
    let two = told.last.last o last.there last.begun in
    let same = one_onset (a -ℤ pos 1) list o told.observance is.rising last.there told.last.there (omega (arith, signed_arith)) in
    ap state_told same ∙ told.told
