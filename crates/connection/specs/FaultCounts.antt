-- How often calls failed between two moments.
use Rattle.std.specs.Prelude.{◌≡◌, ℕ, ◌≤◌, ◌+◌}
use Rattle.td_base.specs.Views.{ConnView, RoseBy}

-- a count of failures rose by so many, and no more; at the last value of 64 bits it stands
pub record RoseTimes (n before now : ℕ) : Type 0 where
  pub later : before ≤ now
  pub least : RoseBy n before now
  pub most : now ≤ before + n

-- how often the reads and the writes of a connection failed
pub record FaultCounts : Type 0 where
  pub reads : ℕ
  pub writes : ℕ

abbrev pub faults_of : ConnView → FaultCounts
faults_of conn = record { reads = conn.read_faults; writes = conn.write_faults }

abbrev pub no_faults : FaultCounts
no_faults = record { reads = 0; writes = 0 }

-- neither count fell
pub record AreLater (before now : FaultCounts) : Type 0 where
  pub reads : before.reads ≤ now.reads
  pub writes : before.writes ≤ now.writes

-- one read failed, and nothing else
pub record ReadFailed (before now : FaultCounts) : Type 0 where
  pub once : RoseTimes 1 before.reads now.reads
  pub writes : now.writes ≡ before.writes

-- one write failed, and nothing else
pub record WriteFailed (before now : FaultCounts) : Type 0 where
  pub once : RoseTimes 1 before.writes now.writes
  pub reads : now.reads ≡ before.reads
