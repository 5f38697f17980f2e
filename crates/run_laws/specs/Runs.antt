-- The definitions of a run that laws judge, under the names that laws use.
pub use Rattle.run_ends.specs.MirrorHistory.{FollowsPrimary, IsOfPrimary, IsStatedByShare}
pub use Rattle.run_ends.specs.Running.CalendarMirroring.{CalendarTells, end_within, observance_line}
