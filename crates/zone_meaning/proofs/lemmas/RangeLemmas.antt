-- The observances of a range are its first and its changes, no other list is, and the last by a
-- moment tells the state.
use Rattle.std.proofs.Common.{◌≡◌, ◌≢◌, ℕ, zero, suc, ◌-◌, List, [], ◌∷◌, Bool, true, false, not, inl, inr, refl, sym, subst, ap, ◌∙◌, arith, ℤ, pos, ◌+ℤ◌}
use Rattle.std.proofs.Common.{◌-ℤ◌, ◌≤ℤ◌, ◌<ℤ◌, unsigned_abs}
use Rattle.std.specs.List.{Contains}
use Rattle.std.proofs.lemmas.Bool.{cond_both}
use Rattle.std.proofs.lemmas.Int.{by_lt_z}
use Rattle.jiff_core.proofs.SignedLemmas.{signed_arith, one_part}
use Rattle.td_civil.specs.declared.local_time.Local.{Local}
use Rattle.td_civil.specs.declared.local_time.Observance.{Observance}
use Rattle.td_civil.proofs.lemmas.SameStates.{same_local_is, other_local}
use Rattle.zone_meaning.specs.Observed.{is_change, change_at, first_at, changes_after, changes_between, observed}
use Rattle.zone_meaning.specs.RangeLaws.{AreRisingAfter, IsChangeBetween, AreObserved, state_told}
use Rattle.zone_meaning.proofs.lemmas.Members.{member_first, member_later, member_cases, no_member}

pub change_onset : (state : ℤ → Local) (t : ℤ) → (change_at state t).onset.seconds ≡ t
unfolding change_at
change_onset state t = refl

pub first_onset : (state : ℤ → Local) (a : ℤ) → (first_at state a).onset.seconds ≡ a
unfolding first_at
first_onset state a = refl

pub change_told : (state : ℤ → Local) (t : ℤ) → state_told (change_at state t) ≡ state t
unfolding change_at
change_told state t = refl

pub first_told : (state : ℤ → Local) (a : ℤ) → state_told (first_at state a) ≡ state a
unfolding first_at
first_told state a = refl

no_other : (b : Bool) → not b ≡ true → b ≡ false
no_other true e = sym e
no_other false e = refl

an_other : (b : Bool) → not b ≡ false → b ≡ true
an_other true e = refl
an_other false e = sym e

pub is_other : (state : ℤ → Local) (t : ℤ) → is_change state t ≡ true → state t ≢ state (t -ℤ pos 1)
is_other state t e = other_local (state t) (state (t -ℤ pos 1)) (no_other _ e)

pub is_same : (state : ℤ → Local) (t : ℤ) → is_change state t ≡ false → state t ≡ state (t -ℤ pos 1)
is_same state t e = same_local_is (state t) (state (t -ℤ pos 1)) (an_other _ e)

-- the seconds after t, up to u
later_change : (state : ℤ → Local) (t b : ℤ) (o : Observance) → IsChangeBetween state (t +ℤ pos 1) b o → IsChangeBetween state t b o
later_change state t b o is = let after = is.after in record {
  moment = is.moment;
  after = omega (arith, signed_arith);
  before = is.before;
  changes = is.changes;
  change_is = is.change_is;
}

change_in : (state : ℤ → Local) (n : ℕ) (t b : ℤ) (o : Observance) → b ≡ t +ℤ pos (suc n) → Contains (changes_after state t n) o → IsChangeBetween state t b o
unfolding changes_after
change_in state zero t b o end there = absurd (no_member o there)
change_in state (suc n) t b o end there =
    let next = t +ℤ pos 1 in
    let rest = changes_after state next n in
    cond_both (is_change state next) (change_at state next ∷ rest) rest (λ xs. Contains xs o → IsChangeBetween state t b o)
    (λ changes there. elim (member_cases (change_at state next) o rest there) [
      | inl is ↦ record {
        moment = next;
        after = omega (arith, signed_arith);
        before = omega (arith, signed_arith, end);
        changes = is_other state next changes;
        change_is = sym is;
      }
      | inr later ↦ later_change state t b o (change_in state n next b o (omega (arith, signed_arith, end)) later)
    ])
    (λ same there. later_change state t b o (change_in state n next b o (omega (arith, signed_arith, end)) there)) there

change_there : (state : ℤ → Local) (n : ℕ) (t m : ℤ) → t <ℤ m → m ≤ℤ (t +ℤ pos n) → state m ≢ state (m -ℤ pos 1)
    → Contains (changes_after state t n) (change_at state m)
unfolding changes_after
change_there state zero t m low high changes = absurd (omega (arith, signed_arith))
change_there state (suc n) t m low high changes =
    let next = t +ℤ pos 1 in
    let rest = changes_after state next n in
    by_lt_z next m
    (λ later. let there = change_there state n next m later (omega (arith, signed_arith)) changes in
    cond_both (is_change state next) (change_at state next ∷ rest) rest (λ xs. Contains xs (change_at state m))
    (λ yes. member_later (change_at state next) (change_at state m) rest there) (λ no. there))
    (λ now. let is : next ≡ m = omega (arith, signed_arith) in
    let P : ℤ → Type 0 = λ k. state k ≢ state (k -ℤ pos 1) in
    let here : state next ≢ state (next -ℤ pos 1) = subst P (sym is) changes in
    cond_both (is_change state next) (change_at state next ∷ rest) rest (λ xs. Contains xs (change_at state m))
    (λ yes. let Q : ℤ → Type 0 = λ k. Contains (change_at state next ∷ rest) (change_at state k) in subst Q is (member_first (change_at state next) rest))
    (λ no. absurd (here (is_same state next no))))

rising_from : (t u : ℤ) (xs : List Observance) → u ≤ℤ t → AreRisingAfter t xs → AreRisingAfter u xs
rising_from t u [] h up = tt
rising_from t u (x ∷ xs) h up = let first = up.0 in (omega (arith, signed_arith), up.1)

pub changes_rise : (state : ℤ → Local) (n : ℕ) (t : ℤ) → AreRisingAfter t (changes_after state t n)
unfolding changes_after
changes_rise state zero t = tt
changes_rise state (suc n) t =
    let next = t +ℤ pos 1 in
    let rest = changes_after state next n in
    let up = changes_rise state n next in
    let onset = change_onset state next in
    cond_both (is_change state next) (change_at state next ∷ rest) rest (λ xs. AreRisingAfter t xs)
    (λ yes. (omega (arith, signed_arith, onset), (let P : ℤ → Type 0 = λ k. AreRisingAfter k rest in subst P (sym onset) up)))
    (λ no. rising_from next t rest (omega (arith, signed_arith)) up)

pub are_observed : (state : ℤ → Local) (a b : ℤ) → a <ℤ b → AreObserved state a b (observed state a b)
unfolding observed changes_between
are_observed state a b lt =
    let n = unsigned_abs (b -ℤ a) - 1 in
    let is = one_part (b -ℤ a) in
    let end : b ≡ a +ℤ pos (suc n) = omega (arith, signed_arith, is) in
    let first = first_at state a in
    let rest = changes_after state a n in
    let onset = first_onset state a in
    let P : ℤ → Type 0 = λ k. AreRisingAfter k rest in
    record {
      rising = (omega (arith, signed_arith, onset), subst P (sym onset) (changes_rise state n a));
      first = member_first first rest;
      each = λ o there. elim (member_cases first o rest there) [
        | inl same ↦ inl (sym same)
        | inr later ↦ inr (change_in state n a b o end later)
      ];
      every = λ t low high changes. member_later first (change_at state t) rest (change_there state n a t low (omega (arith, signed_arith, end)) changes);
    }

-- the members of a rising list come after its beginning
pub member_after : (t : ℤ) (xs : List Observance) (o : Observance) → AreRisingAfter t xs → Contains xs o → t <ℤ o.onset.seconds
member_after t [] o up there = absurd (no_member o there)
member_after t (x ∷ xs) o up there =
    let first = up.0 in
    elim (member_cases x o xs there) [
      | inl is ↦ let same : x.onset.seconds ≡ o.onset.seconds = ap (λ (p : Observance). p.onset.seconds) is in omega (arith, signed_arith, same)
      | inr later ↦ let after = member_after x.onset.seconds xs o up.1 later in omega (arith, signed_arith)
    ]

-- two with one onset are one
pub one_onset : (t : ℤ) (xs : List Observance) (o p : Observance) → AreRisingAfter t xs → Contains xs o → Contains xs p → o.onset.seconds ≡ p.onset.seconds
    → o ≡ p
one_onset t [] o p up there also same = absurd (no_member o there)
one_onset t (x ∷ xs) o p up there also same =
    elim (member_cases x o xs there) [
      | inl is ↦ elim (member_cases x p xs also) [
        | inl too ↦ sym is ∙ too
        | inr later ↦
            let after = member_after x.onset.seconds xs p up.1 later in
            let at : x.onset.seconds ≡ o.onset.seconds = ap (λ (q : Observance). q.onset.seconds) is in
            absurd (omega (arith, signed_arith, at, same))
      ]
      | inr later ↦ elim (member_cases x p xs also) [
        | inl too ↦
            let after = member_after x.onset.seconds xs o up.1 later in
            let at : x.onset.seconds ≡ p.onset.seconds = ap (λ (q : Observance). q.onset.seconds) too in
            absurd (omega (arith, signed_arith, at, same))
        | inr also_later ↦ one_onset x.onset.seconds xs o p up.1 later also_later same
      ]
    ]
