-- What serving the connections of a door, one after the other, promises.
use Rattle.std.specs.Prelude.{◌≡◌, ℕ, ◌<◌, ◌≤◌, ◌+◌, List, [], ◌∷◌, ◌++◌, length, flat_map, true}
use Rattle.std.specs.Prelude.{false, ⊤, Bool, Option, None, Some, IfSome}
use Rattle.std.specs.List.{AllByRecursion}
use Rattle.catalogue.specs.Releases.{ReleaseData}
use Rattle.catalogue.specs.declared.holding.Catalogue.{Catalogue}
use Rattle.desk_pool.specs.Flag.{Sight}
use Rattle.publication.specs.Views.{DeskView}
use Rattle.td_base.specs.DoorViews.{DoorContent, DoorView, Finished}
use Rattle.td_base.specs.declared.door.DoorAnswer.TheVariants as answer
use Rattle.td_base.specs.declared.report.Role.{Role}
use Rattle.connection.specs.Entering.{GoesOn, one_if_starved}
use Rattle.connection.specs.FaultCounts.{RoseTimes, faults_of, no_faults}
use Rattle.connection.specs.Served.{NeverFall, Served}
use Rattle.connection.specs.Serving.{ForEachLonger, answer_at, session_of}
use Rattle.connection.specs.declared.door_work.TheConstants.{MOST_FAILURES}
use Rattle.catalogue.specs.Holdings.{history_of}

-- what contracts see of the work of a worker: what its server is, its door, its desk and its sign
pub record WorkView : Type 0 where
  pub role : Role
  pub door : DoorView
  pub desk : DeskView (Catalogue (List ℕ))
  pub stop : Sight

-- a connection for each that the door gave was handed back, of a door that tells them
abbrev pub NoneOut : DoorView → Type 0
NoneOut door = IfSome door.content (λ c. length c.finished ≡ length c.given)

-- A connection of this input, as it was handed back, was served over a history. Its counts
-- of failures began at 0.
pub record ServedConn (H : List ReleaseData) (role : Role) (input : List ℕ) (f : Finished)
    : Type 0 where
  pub read : List ℕ
  pub left : List ℕ
  pub written : List ℕ
  pub input_is : input ≡ read ++ left
  pub given : f.conn.given ≡ Some read
  pub left_is : f.conn.left ≡ Some left
  pub taken : f.conn.taken ≡ Some written
  pub served : Served (answer_at H role) (length H)
      (session_of f.conn read written f.report.places) no_faults (faults_of f.conn) f.report.end

-- each of these connections, by their inputs in order, was handed back and served over the history
abbrev pub ServedConns : List ReleaseData → Role → List (List ℕ) → List Finished → Type 0
ServedConns H role [] [] = ⊤
ServedConns H role [] (f ∷ fs) = ⊥
ServedConns H role (input ∷ inputs) [] = ⊥
ServedConns H role (input ∷ inputs) (f ∷ fs) =
    ServedConn H role input f × ServedConns H role inputs fs

-- the places of all requests of the connections, in order
abbrev pub places_of : List Finished → List ℕ
places_of finished = flat_map (λ f. f.report.places) finished

-- how many of the connections ended for want of memory
abbrev pub starved : List Finished → ℕ
starved [] = 0
starved (f ∷ fs) = one_if_starved f.report.end + starved fs

-- Of a door that tells its connections: those that it gave meanwhile were handed back, all of them
-- and in order, and each was served over the history that the desk has seen at the end, and over
-- each that begins with it. No place is before what the desk had seen at the start, and places
-- never fall, also from one connection to the next. The desk entered once for each place, and at
-- most once more for each connection that ended for want of memory.
pub record ServesConns (role : Role) (before now : DoorContent)
    (desk desk' : DeskView (Catalogue (List ℕ))) : Type 0 where
  pub inputs : List (List ℕ)
  pub finished : List Finished
  pub given : now.given ≡ before.given ++ inputs
  pub coming : before.coming ≡ inputs ++ now.coming
  pub finished_is : now.finished ≡ before.finished ++ finished
  pub served : ForEachLonger (history_of desk'.seen) (λ H. ServedConns H role inputs finished)
  pub first : AllByRecursion (λ p. length desk.seen ≤ p) (places_of finished)
  pub rising : NeverFall (places_of finished)
  pub enters : (desk.enters + length (places_of finished) ≤ desk'.enters)
      × (desk'.enters ≤ desk.enters + length (places_of finished) + starved finished)

-- what is told is told at the end, too
abbrev pub ServesTold : Role → Option DoorContent → Option DoorContent
    → DeskView (Catalogue (List ℕ)) → DeskView (Catalogue (List ℕ)) → Type 0
ServesTold role (Some before) (Some now) desk desk' = ServesConns role before now desk desk'
ServesTold role (Some before) None desk desk' = ⊥
ServesTold role None (Some now) desk desk' = ⊥
ServesTold role None None desk desk' = ⊤

-- no connection is still to come, of a door that tells them
abbrev pub NoneComes : DoorView → Type 0
NoneComes door = IfSome door.content (λ c. c.coming ≡ [])

-- how often the door failed: fewer times than wear it out
abbrev pub FailedFew : ℕ → ℕ → Type 0
FailedFew before now = (n : ℕ) × (n < MOST_FAILURES) × RoseTimes n before now

-- Why nothing more is accepted. The door answered that no connection is still to come; or none
-- waited, and the sign has seen the flag raised; or the door failed for the last time that it may,
-- of all its failures, by which it is worn.
pub data Stops (before now : DoorView) (raised worn : Bool) : Type 0 where
  at_end : now.last ≡ Some answer.Ended → NoneComes now → FailedFew before.faults now.faults
      → worn ≡ false → Stops before now raised worn
  at_flag : now.last ≡ Some answer.Idle → raised ≡ true → FailedFew before.faults now.faults
      → worn ≡ false → Stops before now raised worn
  by_faults : now.last ≡ Some answer.Failed → RoseTimes MOST_FAILURES before.faults now.faults
      → worn ≡ true → Stops before now raised worn

-- what a worker came to: from its door, desk and sign before to those that it gives back
pub record DoesDoor (role : Role) (before now : DoorView)
    (desk desk' : DeskView (Catalogue (List ℕ))) (sign sign' : Sight) (worn : Bool) : Type 0 where
  pub serves : ServesTold role before.content now.content desk desk'
  pub stops : Stops before now sign'.raised worn
  pub desk_goes_on : GoesOn desk desk'
  pub flag : sign'.flag ≡ sign.flag
