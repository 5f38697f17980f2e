-- The observances of a range: where local time stands at its beginning, and each change of it
-- (RFC 7808, section 5.4). They are defined of any state that is given for each moment, by going
-- over the moments one at a time.
use Rattle.std.specs.Prelude.{ℕ, zero, suc, ◌-◌, List, [], ◌∷◌, Bool, not, if◌then◌else◌, ℤ, pos}
use Rattle.std.specs.Prelude.{◌+ℤ◌, ◌-ℤ◌, ◌≤ℤ◌, ◌<ℤ◌, unsigned_abs}
use Rattle.td_civil.specs.declared.moment_type.TheConstants.{LO, HI}
use Rattle.td_civil.specs.declared.local_time.Local.{Local}
use Rattle.td_civil.specs.declared.local_time.Observance.{Observance}
use Rattle.td_civil.specs.SameLocal.{same_local}

-- whether the state at t is another than a second before
abbrev pub is_change : (ℤ → Local) → ℤ → Bool
is_change state t = not (same_local (state t) (state (t -ℤ pos 1)))

-- from t on this state holds, and before it clocks had that offset
abbrev pub observance : ℤ → ℤ → Local → Observance
observance t before state = record {
  onset = record { seconds = t };
  from = before;
  to = state.offset;
  dst = state.dst;
  name = state.name;
}

-- the change of the state at t
unfoldable pub change_at : (ℤ → Local) → ℤ → Observance
change_at state t = observance t (state (t -ℤ pos 1)).offset (state t)

-- the state at the beginning of a range, where nothing need change
unfoldable pub first_at : (ℤ → Local) → ℤ → Observance
first_at state a = observance a (state a).offset (state a)

-- the changes in the n seconds after t, in rising order
unfoldable pub changes_after : (ℤ → Local) → ℤ → ℕ → List Observance
changes_after state t zero = []
changes_after state t (suc n) =
    if is_change state (t +ℤ pos 1)
    then change_at state (t +ℤ pos 1) ∷ changes_after state (t +ℤ pos 1) n
    else changes_after state (t +ℤ pos 1) n

-- the changes after t and before b
unfoldable pub changes_between : (ℤ → Local) → ℤ → ℤ → List Observance
changes_between state t b = changes_after state t (unsigned_abs (b -ℤ t) - 1)

-- the observances of the range from a to before b
unfoldable pub observed : (ℤ → Local) → ℤ → ℤ → List Observance
observed state a b = first_at state a ∷ changes_between state a b

-- the beginning and the end of a range
abbrev pub IsRange : ℤ → ℤ → Type 0
IsRange a b = (LO ≤ℤ a) × (a <ℤ b) × (b ≤ℤ HI)
