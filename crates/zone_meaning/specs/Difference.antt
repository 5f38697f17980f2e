-- The first moment at which two states differ, where each is given for every moment.
use Rattle.std.specs.Prelude.{◌≡◌, ◌≢◌, ℕ, zero, suc, List, if◌then◌else◌, ℤ, pos, ◌+ℤ◌, ◌-ℤ◌}
use Rattle.std.specs.Prelude.{◌≤ℤ◌, ◌<ℤ◌, unsigned_abs, Option, None, Some}
use Rattle.td_civil.specs.declared.moment_type.Moment.{Moment}
use Rattle.td_civil.specs.declared.moment_type.TheConstants.{LO, HI}
use Rattle.td_civil.specs.declared.local_time.Local.{Local}
use Rattle.td_civil.specs.declared.local_time.Observance.{Observance}
use Rattle.td_civil.specs.SameLocal.{same_local}
use Rattle.tzif_reader.specs.declared.zone_file.ZoneFile.{ZoneFile}
use Rattle.zone_meaning.specs.State.{footer_meant, state_at, zone_state}

-- the first of the n seconds from t on at which they differ
unfoldable pub first_differing : (ℤ → Local) → (ℤ → Local) → ℤ → ℕ → Option Moment
first_differing one two t zero = None
first_differing one two t (suc n) =
    if same_local (one t) (two t) then first_differing one two (t +ℤ pos 1) n
    else Some (record { seconds = t })

-- the first moment from a on, before b, at which they do
unfoldable pub first_difference : (ℤ → Local) → (ℤ → Local) → ℤ → ℤ → Option Moment
first_difference one two a b = first_differing one two a (unsigned_abs (b -ℤ a))

-- the first moment that has a meaning at which two zone files give different states
unfoldable pub zone_difference : List ℕ → List ℕ → Option Moment
zone_difference one two = first_difference (zone_state one) (zone_state two) LO HI

-- the two agree at each moment from a on, before b
abbrev pub AreAlike : (ℤ → Local) → (ℤ → Local) → ℤ → ℤ → Type 0
AreAlike one two a b = (t : ℤ) → a ≤ℤ t → t <ℤ b → one t ≡ two t

-- they differ at m, and agree before it
pub record IsLeastDifference (one two : ℤ → Local) (a b m : ℤ) : Type 0 where
  pub from : a ≤ℤ m
  pub before_end : m <ℤ b
  pub differ : one m ≢ two m
  pub alike_before : AreAlike one two a m

-- the least moment from a on, before b, at which they differ, or none
abbrev pub IsFirstDifference : (ℤ → Local) → (ℤ → Local) → ℤ → ℤ → Option Moment → Type 0
IsFirstDifference one two a b None = AreAlike one two a b
IsFirstDifference one two a b (Some m) = IsLeastDifference one two a b m.seconds

-- two states that agree before b agree wherever a moment has a meaning
abbrev pub Decides : (ℤ → Local) → (ℤ → Local) → ℤ → Type 0
Decides one two b = AreAlike one two LO b → AreAlike one two LO HI

-- the state that the lists of a file give
abbrev pub lists_state : ZoneFile → ℤ → Local
lists_state z t = state_at z (footer_meant z.footer) t

-- when an observance begins, if there is one
abbrev pub onset_if_any : Option Observance → Option Moment
onset_if_any None = None
onset_if_any (Some o) = Some o.onset
