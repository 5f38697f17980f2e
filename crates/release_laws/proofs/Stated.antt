-- The observances of a range, written out over the states, are those of the definition.
use Rattle.std.proofs.Common.{◌≡◌, ◌≢◌, ◌⊎◌, List, Bool, ℕ, inl, inr, refl, sym, subst, ap, ◌∙◌, ℤ, pos, ◌-ℤ◌, ◌<ℤ◌}
use Rattle.std.specs.List.{Contains}
use Rattle.td_civil.specs.declared.local_time.Local.{Local}
use Rattle.td_civil.specs.declared.local_time.Observance.{Observance}
use Rattle.zone_meaning.specs.Observed.{change_at, first_at, observed}
use Rattle.zone_meaning.specs.RangeLaws.{AreObserved, IsChangeBetween}
use Rattle.zone_meaning.proofs.lemmas.RangeLemmas.{are_observed}
use Rattle.release_laws.specs.States.{IsFirstOf, IsChangeOf, IsChangeWithin, AreOfStates}

first_is : (state : ℤ → Local) (a : ℤ) → IsFirstOf state a (first_at state a)
unfolding first_at
first_is state a = record { of_state = record { onset = refl; to = refl; dst = refl; name = refl }; from = refl }

change_is : (state : ℤ → Local) (t : ℤ) → state t ≢ state (t -ℤ pos 1) → IsChangeOf state t (change_at state t)
unfolding change_at
change_is state t changes = record { of_state = record { onset = refl; to = refl; dst = refl; name = refl }; from = refl; changes = changes }

abbrev made : ℤ → ℤ → ℤ → Bool → List ℕ → Observance
made onset from to dst name = record { onset = record { seconds = onset }; from = from; to = to; dst = dst; name = name }

-- an observance is given by its fields
fields_are : (o : Observance) (onset from to : ℤ) (dst : Bool) (name : List ℕ) → o.onset.seconds ≡ onset → o.from ≡ from → o.to ≡ to → o.dst ≡ dst → o.name ≡ name
    → o ≡ made onset from to dst name
fields_are o onset from to dst name e₁ e₂ e₃ e₄ e₅ =
    ap (λ (x : ℤ). made x o.from o.to o.dst o.name) e₁ ∙ ap (λ (x : ℤ). made onset x o.to o.dst o.name) e₂
    ∙ ap (λ (x : ℤ). made onset from x o.dst o.name) e₃ ∙ ap (λ (x : Bool). made onset from to x o.name) e₄
    ∙ ap (λ (x : List ℕ). made onset from to dst x) e₅

is_first : (state : ℤ → Local) (a : ℤ) (o : Observance) → IsFirstOf state a o → o ≡ first_at state a
unfolding first_at
is_first state a o is =
    fields_are o a (state a).offset (state a).offset (state a).dst (state a).name is.of_state.onset is.from is.of_state.to is.of_state.dst is.of_state.name

is_change : (state : ℤ → Local) (t : ℤ) (o : Observance) → IsChangeOf state t o → o ≡ change_at state t
unfolding change_at
is_change state t o is =
    fields_are o t (state (t -ℤ pos 1)).offset (state t).offset (state t).dst (state t).name is.of_state.onset is.from is.of_state.to is.of_state.dst is.of_state.name

pub are_of_states : (state : ℤ → Local) (a b : ℤ) → a <ℤ b → AreOfStates state a b (observed state a b)
are_of_states state a b lt =
    let are = are_observed state a b lt in
    record {
      rising = are.rising;
      first = (first_at state a, are.first, first_is state a);
      each = λ o there. elim (are.each o there) as (λ s. IsFirstOf state a o ⊎ IsChangeWithin state a b o) [
        | inl first ↦ inl (subst (IsFirstOf state a) (sym first) (first_is state a))
        | inr change ↦ inr (record {
          moment = change.moment;
          after = change.after;
          before = change.before;
          change = subst (IsChangeOf state change.moment) (sym change.change_is) (change_is state change.moment change.changes);
        })
      ];
      every = λ t low high changes. (change_at state t, are.every t low high changes, change_is state t changes);
    }

observed_so : (state : ℤ → Local) (a b : ℤ) (list : List Observance) → AreOfStates state a b list → AreObserved state a b list
observed_so state a b list are = record {
  rising = are.rising;
  first = subst (Contains list) (is_first state a are.first.0 are.first.2) are.first.1;
  each = λ o there. elim (are.each o there) as (λ s. (o ≡ first_at state a) ⊎ IsChangeBetween state a b o) [
    | inl first ↦ inl (is_first state a o first)
    | inr within ↦ inr (record {
      moment = within.moment;
      after = within.after;
      before = within.before;
      changes = within.change.changes;
      change_is = is_change state within.moment o within.change;
    })
  ];
  every = λ t low high changes.
      let found = are.every t low high changes in
      subst (Contains list) (is_change state t found.0 found.2) found.1;
}

pub one_of_states : ((state : ℤ → Local) (a b : ℤ) (list : List Observance) → a <ℤ b → AreObserved state a b list → list ≡ observed state a b)
    → (state : ℤ → Local) (a b : ℤ) (list : List Observance) → a <ℤ b → AreOfStates state a b list → list ≡ observed state a b
one_of_states one state a b list lt are = one state a b list lt (observed_so state a b list are)
