-- The moments of local times (RFC 5545, section 3.3.5), which are read as in `ReadValues` of
-- `vtimezone`.
use Rattle.std.specs.Prelude.{List, [], ◌∷◌, ℕ, if◌then◌else◌, ℤ, ◌-ℤ◌, Option, None, Some}
use Rattle.std.specs.Option.{option_map, option_and_then}
use Rattle.td_civil.specs.declared.moment_type.Moment.{Moment}
use Rattle.td_civil.specs.Bounds.{has_meaning}
use Rattle.vtimezone.specs.ReadValues.{local_in}

abbrev pub moment_within : ℤ → Option Moment
moment_within m = if has_meaning m then Some (record { seconds = m }) else None

-- the moment that has a meaning, at which clocks so many seconds east of UTC show a local time
abbrev pub moment_by : ℤ → List ℕ → Option Moment
moment_by offset text = option_and_then (λ shown. moment_within (shown -ℤ offset)) (local_in text)

-- the moments of local times, if each has one
unfoldable pub moments_by : ℤ → List (List ℕ) → Option (List Moment)
moments_by offset [] = Some []
moments_by offset (t ∷ ts) =
    option_and_then (λ m. option_map (λ ms. m ∷ ms) (moments_by offset ts)) (moment_by offset t)
