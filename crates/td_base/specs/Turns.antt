-- What the closure of a thread gives.
use Rattle.std.specs.Prelude.{◌≡◌}
use Rattle.td_base.specs.declared.turn.Turn.{Turn}
use Rattle.td_base.specs.declared.turn.Turn.TheVariants as turn

-- the work's result keeps what the work promises; a work that comes back is that work
module _ {W D : Type 0} (does : W → D → Type 0) where
  abbrev pub KeepsTurn : W → Turn W D → Type 0
  KeepsTurn work (turn.Ran done) = does work done
  KeepsTurn work (turn.Back back) = back ≡ work
