-- The state of local time that a footer gives at a moment.
use Rattle.std.specs.Prelude.{◌≡◌, ◌≢◌, ℕ, zero, suc, ◌+◌, List, [], ◌∷◌, ◌&&◌, not, Bool}
use Rattle.std.specs.Prelude.{if◌then◌else◌, ℤ, pos, int_le, int_lt, ◌≤ℤ◌, Option, None, Some}
use Rattle.std.specs.List.{list_any}
use Rattle.jiff_core.specs.Calendar.{IsBetween}
use Rattle.td_civil.specs.declared.local_time.Local.{Local}
use Rattle.posix_footer.specs.declared.rule_types.Edge.{Edge}
use Rattle.posix_footer.specs.declared.rule_types.Edge.TheVariants as edge
use Rattle.posix_footer.specs.declared.rule_types.DstRule.{DstRule}
use Rattle.posix_footer.specs.declared.rule_types.Footer.{Footer}
use Rattle.posix_footer.specs.Onset.{onset_of}

-- the first n years from 1798 on, the last of them first
unfoldable pub first_years : ℕ → List ℤ
first_years zero = []
first_years (suc n) = pos (1798 + n) ∷ first_years n

-- the years whose onsets count, 1798 to 9999
unfoldable pub years : List ℤ
years = first_years 8202

-- whether daylight saving time has ended by t, after it held at an earlier moment
unfoldable pub has_ended : DstRule → ℤ → ℤ → ℤ → Bool
has_ended rule std since t =
    list_any (λ year. int_lt since (onset_of rule std year edge.End)
    && int_le (onset_of rule std year edge.End) t) years

-- whether daylight saving time holds at t: it has begun in some year, and has not ended since.
-- Where a start and an end fall on one moment, the start counts
unfoldable pub is_daylight : DstRule → ℤ → ℤ → Bool
is_daylight rule std t =
    list_any (λ year. int_le (onset_of rule std year edge.Start) t
    && not (has_ended rule std (onset_of rule std year edge.Start) t)) years

-- the state at t of a standard state and perhaps a rule
abbrev pub state_by : Local → Option DstRule → ℤ → Local
state_by std None t = std
state_by std (Some rule) t = if is_daylight rule std.offset t then rule.dst else std

-- the state that a footer gives at t
abbrev pub state_of : Footer → ℤ → Local
state_of footer t = state_by footer.std footer.dst t

-- m is the greatest onset of an edge that is not after t
pub record IsLatest (rule : DstRule) (std : ℤ) (at : Edge) (t m : ℤ) : Type 0 where
  pub year : ℤ
  pub year_in : IsBetween (pos 1798) (pos 9999) year
  pub onset_is : m ≡ onset_of rule std year at
  pub begun : m ≤ℤ t
  pub greatest : (other : ℤ) → IsBetween (pos 1798) (pos 9999) other
      → onset_of rule std other at ≤ℤ t → onset_of rule std other at ≤ℤ m

-- the last change by t is of this edge: none of those by t comes after it, and where it is an end,
-- no start falls on its moment
pub record IsLastChange (rule : DstRule) (std t : ℤ) (change : Edge) : Type 0 where
  pub year : ℤ
  pub year_in : IsBetween (pos 1798) (pos 9999) year
  pub begun : onset_of rule std year change ≤ℤ t
  pub last : (other : ℤ) (at : Edge) → IsBetween (pos 1798) (pos 9999) other
      → onset_of rule std other at ≤ℤ t
      → onset_of rule std other at ≤ℤ onset_of rule std year change
  pub start_counts : change ≡ edge.End → (other : ℤ) → IsBetween (pos 1798) (pos 9999) other
      → onset_of rule std other edge.Start ≢ onset_of rule std year change

-- the state that follows a change
abbrev pub state_after : Local → DstRule → Edge → Local
state_after std rule edge.Start = rule.dst
state_after std rule edge.End = std

-- a state follows the last change, or is the standard one where there is no rule
abbrev pub FollowsLastChange : Local → Option DstRule → ℤ → Local → Type 0
FollowsLastChange std None t state = state ≡ std
FollowsLastChange std (Some rule) t state =
    (change : Edge) × IsLastChange rule std.offset t change × (state ≡ state_after std rule change)
