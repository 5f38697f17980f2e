-- What one call does to a door, and what a call for doors does to a network. Of content that an
-- object does not tell nothing is said.
use Rattle.std.specs.Prelude.{◌≡◌, ℕ, ◌+◌, ◌≤◌, List, [], ◌∷◌, ◌++◌, length, map, take, drop, All}
use Rattle.std.specs.Prelude.{⊤, Option, None, Some, IfSome, Bool, true, false}
use Rattle.std.specs.Global.{Vec}
use Rattle.td_base.specs.Views.{Rose, ConnView, one_more}
use Rattle.td_base.specs.DoorViews.{DoorContent, DoorView, NetworkContent, NetworkView}
use Rattle.td_base.specs.declared.door.Accepted.{Accepted}
use Rattle.td_base.specs.declared.door.Accepted.TheVariants as accepted
use Rattle.td_base.specs.declared.door.DoorAnswer.{DoorAnswer}
use Rattle.td_base.specs.declared.door.DoorAnswer.TheVariants as answer
use Rattle.td_base.specs.declared.network.Made.{Made}
use Rattle.td_base.specs.declared.network.Made.TheVariants as made
use Rattle.td_base.specs.declared.report.Report.{Report}

-- a connection of this input, of which nothing was read or written yet
pub record IsNewConn (input : List ℕ) (conn : ConnView) : Type 0 where
  pub given : conn.given ≡ Some []
  pub left : conn.left ≡ Some input
  pub taken : conn.taken ≡ Some []

-- no read and no write of the connection failed yet
pub record IsUnfailed (conn : ConnView) : Type 0 where
  pub reads : conn.read_faults ≡ 0
  pub writes : conn.write_faults ≡ 0

-- the connection that comes first was given, and is out
pub record GivesNext (old new : DoorContent) (conn : ConnView) : Type 0 where
  pub input : List ℕ
  pub coming : old.coming ≡ input ∷ new.coming
  pub given : new.given ≡ old.given ++ input ∷ []
  pub finished : new.finished ≡ old.finished
  pub conn_is : IsNewConn input conn

module _ {C : Type 0} (seen : C → ConnView) where
  abbrev pub AcceptTells : DoorContent → DoorContent → Accepted C → Type 0
  AcceptTells old new (accepted.Given conn) = GivesNext old new (seen conn)
  AcceptTells old new accepted.Idle = new ≡ old
  AcceptTells old new accepted.Ended = (new ≡ old) × (old.coming ≡ [])
  AcceptTells old new accepted.Failed = new ≡ old

  -- what is told is told after the call, too
  abbrev pub AcceptTold : Option DoorContent → Option DoorContent → Accepted C → Type 0
  AcceptTold (Some old) (Some new) result = AcceptTells old new result
  AcceptTold (Some old) None result = ⊥
  AcceptTold None (Some new) result = ⊥
  AcceptTold None None result = ⊤

  abbrev pub GivenUnfailed : Accepted C → Type 0
  GivenUnfailed (accepted.Given conn) = IsUnfailed (seen conn)
  GivenUnfailed accepted.Idle = ⊤
  GivenUnfailed accepted.Ended = ⊤
  GivenUnfailed accepted.Failed = ⊤

abbrev pub answer_of : {C : Type 0} → Accepted C → DoorAnswer
answer_of (accepted.Given conn) = answer.Given
answer_of accepted.Idle = answer.Idle
answer_of accepted.Ended = answer.Ended
answer_of accepted.Failed = answer.Failed

abbrev pub is_failed_accept : {C : Type 0} → Accepted C → Bool
is_failed_accept (accepted.Given conn) = false
is_failed_accept accepted.Idle = false
is_failed_accept accepted.Ended = false
is_failed_accept accepted.Failed = true

-- one call for the next connection: it failed only where the count of faults rose, by one at the
-- most, and every other answer leaves it
pub record Accepts {C : Type 0} (seen : C → ConnView) (old new : DoorView) (result : Accepted C)
    : Type 0 where
  pub told : AcceptTold seen old.content new.content result
  pub unfailed : GivenUnfailed seen result
  pub last : new.last ≡ Some (answer_of result)
  pub later : old.faults ≤ new.faults
  pub once : new.faults ≤ old.faults + 1
  pub steady : is_failed_accept result ≡ false → new.faults ≡ old.faults
  pub failed : result ≡ accepted.Failed → Rose old.faults new.faults

-- a connection is out: it was given and was not handed back
abbrev pub HasOut : DoorView → Type 0
HasOut door = IfSome door.content (λ c. length c.finished + 1 ≤ length c.given)

-- the connection was handed back with its report
abbrev pub handed_back : ConnView → Report → DoorContent → DoorContent
handed_back conn report content = record content {
  finished = content.finished ++ record { conn = conn; report = report } ∷ [];
}

abbrev pub FinishTold : Option DoorContent → Option DoorContent → ConnView → Report → Type 0
FinishTold (Some old) (Some new) conn report = new ≡ handed_back conn report old
FinishTold (Some old) None conn report = ⊥
FinishTold None (Some new) conn report = ⊥
FinishTold None None conn report = ⊤

-- one connection was handed back, which never fails
pub record Finishes (old new : DoorView) (conn : ConnView) (report : Report) : Type 0 where
  pub told : FinishTold old.content new.content conn report
  pub last : new.last ≡ old.last
  pub faults : new.faults ≡ old.faults

-- a door that was not asked yet
pub record IsNewDoor (door : DoorView) : Type 0 where
  pub content : IfSome door.content (λ c. (c.given ≡ []) × (c.finished ≡ []))
  pub last : door.last ≡ None
  pub faults : door.faults ≡ 0

-- a door of these connections, none of which it has given
abbrev pub new_content : List (List ℕ) → DoorContent
new_content inputs = record { given = []; coming = inputs; finished = [] }

-- the network after one more call, which gave nothing
abbrev pub called : NetworkContent → NetworkContent
called content = record content { calls = one_more content.calls }

-- the network after one more call, which gave so many doors at an address
abbrev pub opened_at : List ℕ → ℕ → NetworkContent → NetworkContent
opened_at address n content = record (called content) {
  doors = drop n content.doors;
  opened = content.opened ++ record { address = address; doors = n } ∷ [];
}

abbrev pub is_failed_call : {T : Type 0} → Made T → Bool
is_failed_call (made.Given value) = false
is_failed_call made.Failed = true
is_failed_call made.NoMemory = false

module _ {D : Type 0} (seen : D → DoorView) where
  abbrev pub OpenTells : NetworkContent → NetworkContent → List ℕ → ℕ → Made (Vec D) → Type 0
  OpenTells old new address n (made.Given doors) =
      (new ≡ opened_at address n old)
      × (map (λ d. (seen d).content) doors.items
      ≡ map (λ inputs. Some (new_content inputs)) (take n old.doors))
  OpenTells old new address n made.Failed = new ≡ called old
  OpenTells old new address n made.NoMemory = new ≡ called old

  abbrev pub OpenTold : Option NetworkContent → Option NetworkContent → List ℕ → ℕ
      → Made (Vec D) → Type 0
  OpenTold (Some old) (Some new) address n result = OpenTells old new address n result
  OpenTold (Some old) None address n result = ⊥
  OpenTold None (Some new) address n result = ⊥
  OpenTold None None address n result = ⊤

  -- so many doors were given, none of which was asked yet
  abbrev pub OpenFits : ℕ → Made (Vec D) → Type 0
  OpenFits n (made.Given doors) =
      (length doors.items ≡ n) × All (λ d. IsNewDoor (seen d)) doors.items
  OpenFits n made.Failed = ⊤
  OpenFits n made.NoMemory = ⊤

-- one call for doors: it failed only where the count of faults rose, by one at the most, and every
-- other answer leaves it
pub record Opens {D : Type 0} (seen : D → DoorView) (old new : NetworkView) (address : List ℕ)
    (n : ℕ) (result : Made (Vec D)) : Type 0 where
  pub told : OpenTold seen old.content new.content address n result
  pub fits : OpenFits seen n result
  pub later : old.faults ≤ new.faults
  pub once : new.faults ≤ old.faults + 1
  pub steady : is_failed_call result ≡ false → new.faults ≡ old.faults
  pub failed : result ≡ made.Failed → Rose old.faults new.faults
