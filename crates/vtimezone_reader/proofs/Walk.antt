-- A walk from onset to onset.
use Rattle.std.proofs.Common.{◌≡◌, ℕ, List, [], ◌∷◌, ◌++◌, get_or, refl, sym, ap, ◌∙◌, arith, append_assoc}
use Rattle.std.proofs.Common.{append-nil}
use Rattle.std.proofs.Common.{ℤ, pos, ◌+ℤ◌, ◌-ℤ◌, ◌≤ℤ◌, ◌<ℤ◌, Some}
use Rattle.std.proofs.lemmas.Bool.{cond_both}
use Rattle.jiff_core.proofs.SignedLemmas.{signed_arith}
use Rattle.td_civil.specs.declared.moment_type.Moment.{Moment}
use Rattle.td_civil.specs.declared.moment_type.TheConstants.{LO}
use Rattle.td_civil.specs.declared.local_time.Local.{Local}
use Rattle.td_civil.specs.declared.local_time.Observance.{Observance}
use Rattle.td_civil.specs.SameLocal.{same_local}
use Rattle.td_civil.proofs.lemmas.SameStates.{same_local_is, other_local}
use Rattle.recurrence.specs.declared.part_types.Part.{Part}
use Rattle.recurrence.specs.InForce.{state_of_part}
use Rattle.zone_meaning.specs.Observed.{observance, first_at, changes_between, observed}
use Rattle.zone_meaning.specs.Walks.{StaysUntil}
use Rattle.zone_meaning.proofs.lemmas.ChangeLists.{none_left, same_left, change_left, change_is}
use Rattle.vtimezone_reader.specs.Observing.{NoneBetween, IsTurnAt, any_onset, change_if}
use Rattle.vtimezone_reader.specs.Onsets.{calendar_state}
use Rattle.vtimezone_reader.proofs.States.{state_begun, stays_until}

-- the state at a turn is that of its part
pub turn_state : (parts : List Part) (t end m : ℤ) (place : ℕ) (p : Part) (now : Local) → (LO -ℤ pos 1) ≤ℤ t → IsTurnAt parts t end m place
    → p ≡ get_or parts place p → now ≡ state_of_part p → now ≡ calendar_state parts m
turn_state parts t end m place p now low h is state =
    let later = h.next.later in
    state ∙ sym (state_begun parts m p (omega (arith, signed_arith, low, later)) (h.part p ∙ ap Some (sym is)))

-- the change at a turn, if there is one, comes first of those that are left
turn_listed : (state : ℤ → Local) (t end : ℤ) (m : Moment) (before now : Local) → t <ℤ m.seconds → m.seconds <ℤ end → StaysUntil state t m.seconds
    → before ≡ state t → now ≡ state m.seconds → change_if m before now ++ changes_between state m.seconds end ≡ changes_between state t end
turn_listed state t end m before now later inside stays old new =
    cond_both (same_local now before) [] (observance m.seconds before.offset now ∷ [])
    (λ l. l ++ changes_between state m.seconds end ≡ changes_between state t end)
    (λ e. sym (same_left state t m.seconds end later inside stays (sym new ∙ same_local_is now before e ∙ old)))
    (λ e. ap (λ (o : Observance). o ∷ changes_between state m.seconds end)
    (ap (λ (s : Local). observance m.seconds s.offset now) old ∙ ap (observance m.seconds (state t).offset) new ∙ change_is state t m.seconds later stays)
    ∙ sym (change_left state t m.seconds end later inside stays (λ same. other_local now before e (new ∙ same ∙ sym old))))

-- one more turn of the list
pub listed_more : (parts : List Part) (out more all : List Observance) (t end : ℤ) (m : Moment) (place : ℕ) (before now : Local) → (LO -ℤ pos 1) ≤ℤ t
    → IsTurnAt parts t end m.seconds place → before ≡ calendar_state parts t → now ≡ calendar_state parts m.seconds
    → more ≡ out ++ change_if m before now → out ++ changes_between (calendar_state parts) t end ≡ all
    → more ++ changes_between (calendar_state parts) m.seconds end ≡ all
listed_more parts out more all t end m place before now low h old new is whole =
    let state = calendar_state parts in
    ap (λ l. l ++ changes_between state m.seconds end) is
    ∙ append_assoc out (change_if m before now) (changes_between state m.seconds end)
    ∙ ap (λ l. out ++ l) (turn_listed state t end m before now h.next.later h.next.before (stays_until parts t m.seconds low h.next.none) old new)
    ∙ whole

-- no turn is left: the list is whole
pub listed_all : (parts : List Part) (out all : List Observance) (t end : ℤ) → (LO -ℤ pos 1) ≤ℤ t → t <ℤ end → NoneBetween (any_onset parts) t end
    → out ++ changes_between (calendar_state parts) t end ≡ all → out ≡ all
listed_all parts out all t end low before none whole =
    sym (ap (λ l. out ++ l) (none_left (calendar_state parts) t end before (stays_until parts t end low none)) ∙ append-nil out) ∙ whole

-- no onset comes up to a moment: the state is still that before
pub still_state : (parts : List Part) (at t after : ℤ) (state : Local) → (LO -ℤ pos 1) ≤ℤ at → at <ℤ after → after ≡ t +ℤ pos 1
    → NoneBetween (any_onset parts) at after
    → state ≡ calendar_state parts at → state ≡ calendar_state parts t
still_state parts at t after state low before is none old =
    old ∙ sym (stays_until parts at after low none t (omega (arith, signed_arith, is, before)) (omega (arith, signed_arith, is)))

pub observed_is : (state : ℤ → Local) (a b : ℤ) → observance a (state a).offset (state a) ∷ changes_between state a b ≡ observed state a b
unfolding observed first_at
observed_is state a b = refl
