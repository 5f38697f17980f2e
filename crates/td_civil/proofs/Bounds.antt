-- The bounds are the beginnings of the years 1800 and 9999.
use Rattle.std.proofs.Common.{◌≡◌, ℕ, refl, ◌≤◌, arith, lit≤, pos}
use Rattle.std.specs.Prelude.{codes}
use Rattle.jiff_core.specs.Calendar.{day_count}
use Rattle.jiff_core.proofs.SignedLemmas.{signed_arith}
use Rattle.jiff_core.proofs.CalendarLemmas.{days_from_civil-day_count}
use Rattle.jiff_core.proofs.MarchLemmas.{day_count-early}
use Rattle.td_civil.specs.declared.moment_type.TheConstants.{LO, HI}
use Rattle.td_civil.specs.Stamp.{Stamp, IsStamp, Spells, moment_at}

-- 1 January of a year at midnight
abbrev beginning : ℕ → Stamp
beginning y = record { year = y; month = 1; day = 1; hour = 0; minute = 0; second = 0 }

lo_count : day_count (pos 1800) 1 1 ≡ 4_309_862
lo_count = day_count-early (pos 1800) 11799 1 1 refl (omega arith) (omega arith) (omega arith)

hi_count : day_count (pos 9999) 1 1 ≡ 7_304_485
hi_count = day_count-early (pos 9999) 19998 1 1 refl (omega arith) (omega arith) (omega arith)

lo_moment : LO ≡ moment_at (beginning 1800)
lo_moment = omega (arith, signed_arith, lo_count, days_from_civil-day_count (pos 1800) 1 1)

hi_moment : HI ≡ moment_at (beginning 9999)
hi_moment = omega (arith, signed_arith, hi_count, days_from_civil-day_count (pos 9999) 1 1)

beginning_valid : (y : ℕ) → y ≤ 9999 → IsStamp (beginning y)
beginning_valid y h = record {
  year = h;
  month = (omega arith, omega arith);
  day = (omega arith, lit≤ tt);
  hour = omega arith;
  minute = omega arith;
  second = omega arith;
}

pub lo_spelled : Spells (codes "1800-01-01T00:00:00Z") LO
lo_spelled = record {
  stamp = beginning 1800;
  valid = beginning_valid 1800 (omega arith);
  text_is = refl;
  moment_is = lo_moment;
}

pub hi_spelled : Spells (codes "9999-01-01T00:00:00Z") HI
hi_spelled = record {
  stamp = beginning 9999;
  valid = beginning_valid 9999 (omega arith);
  text_is = refl;
  moment_is = hi_moment;
}
