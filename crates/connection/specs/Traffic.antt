-- What was read from a connection and written to it between two moments.
use Rattle.std.specs.Prelude.{◌≡◌, ℕ, List}
use Rattle.std.specs.Io.KnownBytes.{Appends, Consumes}
use Rattle.td_base.specs.Views.{ConnView, IsSameConn}
use Rattle.connection.specs.FaultCounts.{faults_of}

-- its reads gave these bytes, and its writes took those, where it tells of them
pub record Traffic (before now : ConnView) (read written : List ℕ) : Type 0 where
  pub consumed : Consumes before.left now.left read
  pub given : Appends before.given now.given read
  pub taken : Appends before.taken now.taken written
  pub same : IsSameConn before now

-- and no call failed meanwhile
pub record Passes (before now : ConnView) (read written : List ℕ) : Type 0 where
  pub traffic : Traffic before now read written
  pub steady : faults_of now ≡ faults_of before
