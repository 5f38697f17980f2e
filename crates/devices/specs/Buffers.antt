-- What contracts see of the bytes that were written and not sent.
use Rattle.std.specs.Prelude.{ℕ, List}

-- the bytes that are left to send, and how many bytes the buffer has
pub record UnsentView : Type 0 where
  pub rest : List ℕ
  pub size : ℕ
