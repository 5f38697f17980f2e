-- What stands before a release in its history, and what is wrong with a release against it.
use Rattle.std.specs.Prelude.{ℕ, List, [], length, Option, None, Some, not, int_lt, nat_le, find}
use Rattle.std.specs.List.{list_any}
use Rattle.std.specs.Option.{option_map}
use Rattle.std.specs.Str.{bytes_eq}
use Rattle.td_base.specs.FirstFault.{when}
use Rattle.td_civil.specs.declared.moment_type.Moment.{Moment}
use Rattle.catalogue.specs.Histories.{FitsAfter, last_release}
use Rattle.catalogue.specs.Holdings.{place_count, release_held}
use Rattle.catalogue.specs.Releases.{ReleaseData, names_of}
use Rattle.catalogue.specs.Order.{rising_by}
use Rattle.catalogue.specs.declared.holding.Catalogue.{Catalogue}
use Rattle.catalogue.specs.declared.limits.TheConstants.{MOST_RELEASES}
use Rattle.zone_meaning.specs.ZoneHistories.{ForEachZoneHistory, zone_bytes}
use Rattle.release_check.specs.declared.check_fault.CheckFault.{CheckFault}
use Rattle.release_check.specs.declared.check_fault.CheckFault.TheVariants as fault

-- the last release, if there is one, and how many there are
pub record Before : Type 0 where
  pub last : Option ReleaseData
  pub count : ℕ

-- what a history leaves
abbrev pub before_of : List ReleaseData → Before
before_of H = record { last = last_release H; count = length H }

-- what a catalogue holds of its history; where there is no catalogue, nothing came before
abbrev pub before_held : Option (Catalogue (List ℕ)) → Before
before_held None = record { last = None; count = 0 }
before_held (Some c) = record { last = Some (release_held zone_bytes c); count = place_count c }

-- a release may follow what stands before it
abbrev pub Follows : Before → ReleaseData → Type 0
Follows before r = FitsAfter before.last before.count r

-- a fact of each history that the catalogue stands for, or of the empty one where there is none
abbrev pub ForEachBefore : Option (Catalogue (List ℕ)) → (List ReleaseData → Type 0) → Type 0
ForEachBefore None P = P []
ForEachBefore (Some c) P = ForEachZoneHistory c P

-- ---- what is wrong with a release against it

-- it is earlier than the last release
abbrev pub stamp_fault : Option ReleaseData → Moment → Option CheckFault
stamp_fault None new = None
stamp_fault (Some last) new =
    when (int_lt new.seconds last.stamp) (fault.StampBack (record { seconds = last.stamp }) new)

-- the first of some names, in their order, that is none of the new ones
abbrev pub first_missing : List (List ℕ) → List (List ℕ) → Option CheckFault
first_missing old new =
    option_map fault.Drops (find (λ name. not (list_any (bytes_eq name) new)) old)

-- a name of the last release is none of the new ones: the least of these is told
abbrev pub drop_fault : Option ReleaseData → List (List ℕ) → Option CheckFault
drop_fault None new = None
drop_fault (Some last) new = first_missing (rising_by (λ name. name) (names_of last.contents)) new

-- the history has as many releases as it may have
abbrev pub place_fault : ℕ → Option CheckFault
place_fault count = when (nat_le MOST_RELEASES count) fault.HistoryFull
