-- What a request names: a zone of the last release, and a range of time by its bounds.
use Rattle.std.specs.Prelude.{◌≡◌, ◌∷◌, ℕ, List, ℤ, ◌≤ℤ◌, ◌<ℤ◌, Option, None, Some}
use Rattle.std.specs.List.{Contains}
use Rattle.td_civil.specs.Stamp.{Spells}
use Rattle.td_civil.specs.declared.moment_type.Moment.{Moment}
use Rattle.td_civil.specs.declared.moment_type.TheConstants.{LO, HI}
use Rattle.catalogue.specs.Lookups.{zones_of}
use Rattle.catalogue.specs.Releases.{ContentData, ReleaseData}
use Rattle.target.specs.declared.asked_types.Param.{Param}
use Rattle.target.specs.declared.asked_types.Param.TheVariants as param

-- a zone of the last release, and one of its names
pub record IsNamed (H : List ReleaseData) (name : List ℕ) (zone : ContentData) : Type 0 where
  pub there : Contains (zones_of H) zone
  pub named : Contains (zone.tzid ∷ zone.aliases) name

-- where a range begins: at the moment whose text the request has, and without one at the first
-- moment of which a meaning is claimed
abbrev pub IsBegin : Param → Moment → Type 0
IsBegin param.Absent from = from.seconds ≡ LO
IsBegin (param.Once text) from =
    Spells text from.seconds × (LO ≤ℤ from.seconds) × (from.seconds <ℤ HI)
IsBegin param.Repeated from = ⊥

-- where it ends: at the moment whose text the request has, which comes after its beginning; without
-- one it has no end
abbrev pub IsFinish : Moment → Param → Option Moment → Type 0
IsFinish from param.Absent None = Unit {0}
IsFinish from (param.Once text) (Some until) =
    Spells text until.seconds × (from.seconds <ℤ until.seconds) × (until.seconds ≤ℤ HI)
IsFinish from bound until = ⊥

-- a moment from the beginning to before the end, of which a meaning is claimed
pub record IsBetween (from : Moment) (until : Option Moment) (t : ℤ) : Type 0 where
  pub begun : from.seconds ≤ℤ t
  pub before : (end : Moment) → until ≡ Some end → t <ℤ end.seconds
  pub meant : t <ℤ HI
