-- The state of a calendar from one onset to the next.
use Rattle.std.proofs.Common.{◌≡◌, ℕ, zero, suc, false, if◌then◌else◌, List, [], ◌∷◌, refl}
use Rattle.std.proofs.Common.{ap, ◌∙◌}
use Rattle.std.proofs.Common.{arith, ℤ, pos, ◌+ℤ◌, ◌-ℤ◌, ◌≤ℤ◌, ◌<ℤ◌, unsigned_abs, None, Some}
use Rattle.std.specs.Option.{option_or}
use Rattle.std.proofs.lemmas.Bool.{cond-false}
use Rattle.jiff_core.proofs.SignedLemmas.{signed_arith, one_part}
use Rattle.td_civil.specs.declared.moment_type.TheConstants.{LO}
use Rattle.recurrence.specs.declared.part_types.Part.{Part}
use Rattle.recurrence.specs.InForce.{state_of_part}
use Rattle.zone_meaning.specs.Walks.{StaysUntil}
use Rattle.vtimezone_reader.specs.Observing.{NoneBetween, any_onset}
use Rattle.vtimezone_reader.specs.Onsets.{has_onset, begun_at, state_or, no_state, state_since, calendar_state}
use Rattle.vtimezone_reader.proofs.Tests.{or_parts}

since_more : (parts : List Part) (n : ℕ) (t : ℤ) → state_since parts (suc n) t ≡ state_or (begun_at parts t) (state_since parts n (t -ℤ pos 1))
unfolding state_since
since_more parts n t = refl

-- the state at t is that of the part that has an onset there, and else that of a second before
pub state_step : (parts : List Part) (t : ℤ) → LO ≤ℤ t → calendar_state parts t ≡ state_or (begun_at parts t) (calendar_state parts (t -ℤ pos 1))
unfolding calendar_state
state_step parts t low =
    let before = ((t -ℤ pos 1) +ℤ pos 1) -ℤ LO in
    let n = unsigned_abs before in
    let is = one_part before in
    let also = one_part ((t +ℤ pos 1) -ℤ LO) in
    let count : unsigned_abs ((t +ℤ pos 1) -ℤ LO) ≡ suc n = omega (arith, signed_arith, is, also) in
    ap (λ k. state_since parts k t) count ∙ since_more parts n t

-- where no part has an onset none has begun
pub none_begun : (parts : List Part) (t : ℤ) → any_onset parts t ≡ false → begun_at parts t ≡ None
unfolding begun_at
none_begun [] t e = refl
none_begun (p ∷ ps) t e =
    let both = or_parts (has_onset p t) (any_onset ps t) e in
    ap (λ o. option_or o (if has_onset p t then Some p else None)) (none_begun ps t both.1)
    ∙ cond-false (has_onset p t) (Some p) None both.0

stays_for : (parts : List Part) (k : ℕ) (t u v : ℤ) → (LO -ℤ pos 1) ≤ℤ t → NoneBetween (any_onset parts) t u → v ≡ t +ℤ pos k → v <ℤ u
    → calendar_state parts v ≡ calendar_state parts t
stays_for parts zero t u v low none is before =
    let same : v ≡ t = omega (arith, signed_arith, is) in
    ap (calendar_state parts) same
stays_for parts (suc k) t u v low none is before =
    let nothing = none_begun parts v (none v (omega (arith, signed_arith, is)) before) in
    state_step parts v (omega (arith, signed_arith, is, low))
    ∙ ap (λ o. state_or o (calendar_state parts (v -ℤ pos 1))) nothing
    ∙ stays_for parts k t u (v -ℤ pos 1) low none (omega (arith, signed_arith, is)) (omega (arith, signed_arith, before))

-- where no onset comes the state stays
pub stays_until : (parts : List Part) (t u : ℤ) → (LO -ℤ pos 1) ≤ℤ t → NoneBetween (any_onset parts) t u → StaysUntil (calendar_state parts) t u
stays_until parts t u low none v from before =
    let k = unsigned_abs (v -ℤ t) in
    let is = one_part (v -ℤ t) in
    stays_for parts k t u v low none (omega (arith, signed_arith, is, from)) before

-- and at an onset it is that of its part
pub state_begun : (parts : List Part) (m : ℤ) (p : Part) → LO ≤ℤ m → begun_at parts m ≡ Some p → calendar_state parts m ≡ state_of_part p
state_begun parts m p low is = state_step parts m low ∙ ap (λ o. state_or o (calendar_state parts (m -ℤ pos 1))) is

pub no_state_before : (parts : List Part) → calendar_state parts (LO -ℤ pos 1) ≡ no_state
unfolding calendar_state state_since
no_state_before parts = refl
