-- The first onset after a moment: where the state that a footer gives may change next.
use Rattle.std.specs.Prelude.{◌≡◌, Bool, false, if◌then◌else◌, ℤ, pos, int_le, ◌≤ℤ◌, ◌<ℤ◌, Option, None, Some}
use Rattle.jiff_core.specs.Calendar.{IsBetween}
use Rattle.td_civil.specs.declared.moment_type.Moment.{Moment}
use Rattle.posix_footer.specs.declared.rule_types.Edge.{Edge}
use Rattle.posix_footer.specs.declared.rule_types.Edge.TheVariants as edge
use Rattle.posix_footer.specs.declared.rule_types.DstRule.{DstRule}
use Rattle.posix_footer.specs.declared.ahead.YearOnset.{YearOnset}
use Rattle.posix_footer.specs.declared.ahead.Ahead.{Ahead}
use Rattle.posix_footer.specs.Onset.{onset_of}

-- m is an onset after t, and no other one after t comes before it
pub record IsNextOnset (rule : DstRule) (std t m : ℤ) : Type 0 where
  pub year : ℤ
  pub edge : Edge
  pub year_in : IsBetween (pos 1798) (pos 9999) year
  pub onset_is : m ≡ onset_of rule std year edge
  pub after : t <ℤ m
  pub least : (other : ℤ) (at : Edge) → IsBetween (pos 1798) (pos 9999) other
      → t <ℤ onset_of rule std other at → m ≤ℤ onset_of rule std other at

-- each onset has come by t
abbrev pub NoneAfter : DstRule → ℤ → ℤ → Type 0
NoneAfter rule std t =
    (year : ℤ) (at : Edge) → IsBetween (pos 1798) (pos 9999) year → onset_of rule std year at ≤ℤ t

-- where there is a rule, its first onset after t, if there is one
abbrev pub IsNext : Option DstRule → ℤ → ℤ → Option Moment → Type 0
IsNext None std t next = next ≡ None
IsNext (Some rule) std t None = NoneAfter rule std t
IsNext (Some rule) std t (Some m) = IsNextOnset rule std t m.seconds

-- the same of the onsets of one edge
pub record IsNextOf (rule : DstRule) (std : ℤ) (at : Edge) (t m : ℤ) : Type 0 where
  pub year : ℤ
  pub year_in : IsBetween (pos 1798) (pos 9999) year
  pub onset_is : m ≡ onset_of rule std year at
  pub after : t <ℤ m
  pub least : (other : ℤ) → IsBetween (pos 1798) (pos 9999) other
      → t <ℤ onset_of rule std other at → m ≤ℤ onset_of rule std other at

abbrev pub IsNextIfAny : DstRule → ℤ → Edge → ℤ → Option Moment → Type 0
IsNextIfAny rule std at t None =
    (year : ℤ) → IsBetween (pos 1798) (pos 9999) year → onset_of rule std year at ≤ℤ t
IsNextIfAny rule std at t (Some m) = IsNextOf rule std at t m.seconds

-- the earlier of two moments, where there are two, and else that which there is
abbrev pub earlier : Option Moment → Option Moment → Option Moment
earlier None other = other
earlier (Some m) None = Some m
earlier (Some m) (Some n) = Some (if int_le m.seconds n.seconds then m else n)

-- a start that is there has come by t
abbrev pub has_started : Option Moment → ℤ → Bool
has_started None t = false
has_started (Some start) t = int_le start.seconds t

-- no onset comes after t and not after u
abbrev pub IsQuiet : DstRule → ℤ → ℤ → ℤ → Type 0
IsQuiet rule std t u =
    (year : ℤ) (at : Edge) → IsBetween (pos 1798) (pos 9999) year
    → onset_of rule std year at ≤ℤ u → onset_of rule std year at ≤ℤ t

abbrev pub IsQuietIfAny : Option DstRule → ℤ → ℤ → ℤ → Type 0
IsQuietIfAny None std t u = Unit {0}
IsQuietIfAny (Some rule) std t u = IsQuiet rule std t u

-- the next onset, if there is one, comes after u
abbrev pub ComesAfter : Option Moment → ℤ → Type 0
ComesAfter None u = Unit {0}
ComesAfter (Some m) u = u <ℤ m.seconds

-- an onset of an edge, with its year
pub record IsYearOnset (rule : DstRule) (std : ℤ) (at : Edge) (o : YearOnset) : Type 0 where
  pub year_in : IsBetween (pos 1798) (pos 9999) o.year
  pub onset_is : o.at.seconds ≡ onset_of rule std o.year at

-- an onset after t, where those of all earlier years have come by t
pub record IsFirstYear (rule : DstRule) (std : ℤ) (at : Edge) (t : ℤ) (o : YearOnset) : Type 0 where
  pub onset : IsYearOnset rule std at o
  pub after : t <ℤ o.at.seconds
  pub before : (other : ℤ) → IsBetween (pos 1798) (pos 9999) other → other <ℤ o.year
      → onset_of rule std other at ≤ℤ t

-- the first onset of an edge after t, if there is one
abbrev pub IsFirstYearIfAny : DstRule → ℤ → Edge → ℤ → Option YearOnset → Type 0
IsFirstYearIfAny rule std at t None =
    (year : ℤ) → IsBetween (pos 1798) (pos 9999) year → onset_of rule std year at ≤ℤ t
IsFirstYearIfAny rule std at t (Some o) = IsFirstYear rule std at t o

-- the first onset of each edge after the moment that is kept with them
pub record IsAheadBy (rule : DstRule) (std : ℤ) (ahead : Ahead) : Type 0 where
  pub start : IsFirstYearIfAny rule std edge.Start ahead.after.seconds ahead.start
  pub end : IsFirstYearIfAny rule std edge.End ahead.after.seconds ahead.end

-- the same, where there is a rule
abbrev pub IsAhead : Option DstRule → ℤ → Ahead → Type 0
IsAhead None std ahead = Unit {0}
IsAhead (Some rule) std ahead = IsAheadBy rule std ahead
