-- The moments that a request bounds a range by (RFC 7808, sections 5.3 and 5.4), each given once,
-- as its text.
use Rattle.std.specs.Prelude.{ℤ, Bool, ◌&&◌, int_le, int_lt, Option, None, option_and_then}
use Rattle.std.specs.Bool.{then_some}
use Rattle.td_civil.specs.Bounds.{has_meaning}
use Rattle.td_civil.specs.Reading.{moment_in}
use Rattle.td_civil.specs.declared.moment_type.TheConstants.{HI}
use Rattle.target.specs.declared.asked_types.Param.{Param}
use Rattle.target.specs.declared.asked_types.Param.TheVariants as param

-- the moment that a parameter gives, which is to be given once
abbrev pub moment_given : Param → Option ℤ
moment_given param.Absent = None
moment_given (param.Once text) = moment_in text
moment_given param.Repeated = None

-- a moment that passes a test
abbrev pub moment_where : (ℤ → Bool) → Option ℤ → Option ℤ
moment_where test moment = option_and_then (λ m. then_some (test m) m) moment

-- a start has a meaning
unfoldable pub start_of : Param → Option ℤ
start_of p = moment_where has_meaning (moment_given p)

-- an end comes after the start, and no later than where meaning ends
abbrev pub is_end : ℤ → ℤ → Bool
is_end start m = int_lt start m && int_le m HI

unfoldable pub end_of : ℤ → Param → Option ℤ
end_of start p = moment_where (is_end start) (moment_given p)
