-- What one round of a worker comes to: it asks its door once for a connection, and serves that.
use Rattle.std.specs.Prelude.{◌≡◌, ◌⊎◌, ℕ, List, Bool, true, false, Some}
use Rattle.catalogue.specs.declared.holding.Catalogue.{Catalogue}
use Rattle.desk_pool.specs.Flag.{Sight}
use Rattle.publication.specs.Views.{DeskView}
use Rattle.td_base.specs.DoorViews.{DoorView}
use Rattle.td_base.specs.declared.door.DoorAnswer.TheVariants as answer
use Rattle.td_base.specs.declared.report.Role.{Role}
use Rattle.connection.specs.DoorWorks.{NoneComes, ServesTold}
use Rattle.connection.specs.Entering.{GoesOn}
use Rattle.connection.specs.FaultCounts.{RoseTimes}
use Rattle.connection.specs.declared.round.Round.{Round}
use Rattle.connection.specs.declared.round.Round.TheVariants as round

-- What the door answered, and how often it failed, which is once where it answered so. The worker
-- goes on only where a connection was given, or where none waited and the flag was seen down.
abbrev pub RoundTells : DoorView → DoorView → Bool → Round → Type 0
RoundTells before now raised round.GoesOn =
    ((now.last ≡ Some answer.Given) ⊎ ((now.last ≡ Some answer.Idle) × (raised ≡ false)))
    × (now.faults ≡ before.faults)
RoundTells before now raised round.Failed =
    (now.last ≡ Some answer.Failed) × RoseTimes 1 before.faults now.faults
RoundTells before now raised round.Ended =
    (now.last ≡ Some answer.Ended) × NoneComes now × (now.faults ≡ before.faults)
RoundTells before now raised round.Stopped =
    (now.last ≡ Some answer.Idle) × (raised ≡ true) × (now.faults ≡ before.faults)

-- what became of the door and the desk, of which the first may be of any time before
pub record HasServed (role : Role) (before now : DoorView)
    (desk desk' : DeskView (Catalogue (List ℕ))) : Type 0 where
  pub serves : ServesTold role before.content now.content desk desk'
  pub desk_goes_on : GoesOn desk desk'

-- one round
pub record ServesNext (role : Role) (before now : DoorView)
    (desk desk' : DeskView (Catalogue (List ℕ))) (sign sign' : Sight) (r : Round) : Type 0 where
  pub served : HasServed role before now desk desk'
  pub tells : RoundTells before now sign'.raised r
  pub flag : sign'.flag ≡ sign.flag
