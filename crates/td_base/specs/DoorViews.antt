-- What contracts see of the doors through which connections come, and of a network that opens them
-- and that reaches other servers: what it tells, None where it tells nothing, and how often it
-- failed so far.
use Rattle.std.specs.Prelude.{ℕ, List, Option}
use Rattle.td_base.specs.Views.{ConnView}
use Rattle.td_base.specs.declared.door.DoorAnswer.{DoorAnswer}
use Rattle.td_base.specs.declared.report.Report.{Report}

-- a connection that was handed back: what was seen of it then, and its report
pub record Finished : Type 0 where
  pub conn : ConnView
  pub report : Report

-- the connections of a door, each by the whole of its input: those given so far and those still to
-- come; and those handed back, all in their order
pub record DoorContent : Type 0 where
  pub given : List (List ℕ)
  pub coming : List (List ℕ)
  pub finished : List Finished

-- a door: its connections, what it answered last, and how often it failed
pub record DoorView : Type 0 where
  pub content : Option DoorContent
  pub last : Option DoorAnswer
  pub faults : ℕ

-- an address at which so many doors were opened
pub record Opening : Type 0 where
  pub address : List ℕ
  pub doors : ℕ

-- a network: the doors that it will give, each by the inputs of its connections, and where it gave
-- how many; how many upstreams it will give, and the addresses at which it gave one; and how many
-- calls it had of the two kinds, whatever came of them
pub record NetworkContent : Type 0 where
  pub doors : List (List (List ℕ))
  pub opened : List Opening
  pub upstreams : ℕ
  pub reached : List (List ℕ)
  pub calls : ℕ

pub record NetworkView : Type 0 where
  pub content : Option NetworkContent
  pub faults : ℕ
