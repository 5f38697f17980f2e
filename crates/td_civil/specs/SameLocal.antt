-- Whether two states of local time are one, as a test.
use Rattle.std.specs.Prelude.{Bool, ◌&&◌}
use Rattle.std.specs.Bool.{beq}
use Rattle.std.specs.Ordering.{int_eq}
use Rattle.std.specs.Str.{bytes_eq}
use Rattle.td_civil.specs.declared.local_time.Local.{Local}

-- offset, flag and name are the same
unfoldable pub same_local : Local → Local → Bool
same_local x y = int_eq x.offset y.offset && (beq x.dst y.dst && bytes_eq x.name y.name)
