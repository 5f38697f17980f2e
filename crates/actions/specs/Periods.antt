-- How far the changes of a range are written.
use Rattle.std.specs.Prelude.{ℤ, pos, ◌+ℤ◌, ◌≤ℤ◌, ◌<ℤ◌}
use Rattle.td_civil.specs.declared.local_time.Local.{Local}
use Rattle.td_civil.specs.declared.moment_type.Moment.{Moment}
use Rattle.json_forms.specs.Begun.{Appends, TextSoFar}
use Rattle.zone_meaning.specs.Observed.{changes_between}

-- the changes after the start up to this moment, which is before the end of the range
pub record IsPutTo (state : ℤ → Local) (start until : ℤ) (old new : TextSoFar) (to : Moment) : Type 0 where
  pub after : start ≤ℤ to.seconds
  pub before : to.seconds <ℤ until
  pub put : Appends old new (changes_between state start (to.seconds +ℤ pos 1))
