-- A state of local time that comes again with the calendar.
use Rattle.std.specs.Prelude.{◌≡◌, ℤ, ◌+ℤ◌, ◌≤ℤ◌, ◌<ℤ◌}
use Rattle.td_civil.specs.declared.moment_type.TheConstants.{CYCLE, HI}
use Rattle.td_civil.specs.declared.local_time.Local.{Local}
use Rattle.td_civil.specs.declared.local_time.Observance.{Observance}

-- from t on the state comes again a period of the calendar later, as far as moments have a meaning
abbrev pub RepeatsFrom : (ℤ → Local) → ℤ → Type 0
RepeatsFrom state t =
    (v : ℤ) → t ≤ℤ v → (v +ℤ CYCLE) <ℤ HI → state (v +ℤ CYCLE) ≡ state v

-- an observance as it comes a period later
abbrev pub observance_later : Observance → Observance
observance_later o = record {
  onset = record { seconds = o.onset.seconds +ℤ CYCLE };
  from = o.from;
  to = o.to;
  dst = o.dst;
  name = o.name;
}
