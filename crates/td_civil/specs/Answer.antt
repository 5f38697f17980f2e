-- What the answer of a reader of moments says.
use Rattle.std.specs.Prelude.{ℤ, Option, Some, None, Result, Ok, Err}
use Rattle.td_civil.specs.declared.moment_type.Moment.{Moment}
use Rattle.td_civil.specs.declared.moment_fault.BadMoment.{BadMoment}

-- the moment that was read, if one was
abbrev pub moment_read : Result Moment BadMoment → Option ℤ
moment_read (Ok m) = Some m.seconds
moment_read (Err bad) = None
