-- What contracts see of the bytes that are held of a connection.
use Rattle.std.specs.Prelude.{ℕ, List, length}

-- bytes that are appended and taken: those that are not taken, and how many bytes the buffer has,
-- those that were taken and not let go among them
pub record HeldView : Type 0 where
  pub rest : List ℕ
  pub size : ℕ

-- the buffer has these bytes and no others
abbrev pub only : List ℕ → HeldView
only bytes = record { rest = bytes; size = length bytes }

-- the same of the bytes of which heads are read, and how many of those that are not taken were
-- searched for the end of the first head
pub record HeadsView : Type 0 where
  pub rest : List ℕ
  pub seen : ℕ
  pub size : ℕ

abbrev pub only_seen : List ℕ → ℕ → HeadsView
only_seen bytes seen = record { rest = bytes; seen = seen; size = length bytes }
