-- One request after the other: what a connection has been served so far, and what one step adds.
use Rattle.std.specs.Prelude.{◌≡◌, ℕ, ◌≤◌, ◌⊎◌, List, [], ◌∷◌, ◌++◌, length, true, false, Result}
use Rattle.std.specs.Prelude.{Ok, Err, Option, Some, None}
use Rattle.catalogue.specs.Holdings.{history_of}
use Rattle.catalogue.specs.declared.holding.Catalogue.{Catalogue}
use Rattle.http_answer.specs.declared.answer.Answer.{Answer}
use Rattle.http_request.specs.Asks.{Gives}
use Rattle.http_request.specs.declared.head.Head.{Head}
use Rattle.publication.specs.Views.{DeskView}
use Rattle.td_base.specs.Views.{ConnView}
use Rattle.td_base.specs.declared.no_memory.NoMemory.{NoMemory}
use Rattle.td_base.specs.declared.report.End.{End}
use Rattle.td_base.specs.declared.report.End.TheVariants as end
use Rattle.td_base.specs.declared.report.Role.{Role}
use Rattle.connection.specs.Entering.{EntersAt, EntersEach, EntersFor, IsRefused}
use Rattle.connection.specs.Replies.{IsOpen, is_last, replies, reply_at}
use Rattle.connection.specs.Sending.{IsCutOff, IsSent}
use Rattle.connection.specs.Served.{ArePlaces, IsNeeded}
use Rattle.connection.specs.Serving.{ForEachLonger, ServesConn, ServesPart, answer_at}
use Rattle.connection.specs.Traffic.{Passes}

-- each request so far was replied to
pub record HasReplied (answer : ℕ → Head → Answer) (given : List Head) (places written : List ℕ)
    : Type 0 where
  pub placed : length places ≡ length given
  pub told : written ≡ replies answer given places

-- A desk has served so far, and the connection is open: what is held is what is left of the bytes
-- that were read, after the requests that were replied to.
pub record IsServing (desk : DeskView (Catalogue (List ℕ))) (role : Role) (before now : ConnView)
    (held places : List ℕ) : Type 0 where
  pub read : List ℕ
  pub written : List ℕ
  pub given : List Head
  pub passes : Passes before now read written
  pub gives : Gives read given held
  pub needed : IsNeeded read
  pub open_after : IsOpen given
  pub placed : length places ≡ length given
  pub are : ArePlaces (length desk.seen) places
  pub replied : ForEachLonger (history_of desk.seen)
      (λ H. HasReplied (answer_at H role) given places written)

-- the desk entered once, and the place of what it holds since then is told
pub record TakesPlace (before now : DeskView (Catalogue (List ℕ))) (old new : List ℕ)
    : Type 0 where
  pub place : ℕ
  pub enters : EntersAt before place now
  pub some : 1 ≤ place
  pub places_are : new ≡ old ++ place ∷ []

-- the reply to the request that comes after so many others, answered at this place, over each
-- history that begins with the one which the desk has seen
abbrev pub IsReplyAt : DeskView (Catalogue (List ℕ)) → Role → ℕ → Head → ℕ → List ℕ → Type 0
IsReplyAt desk role before head place bytes =
    ForEachLonger (history_of desk.seen)
    (λ H. bytes ≡ reply_at (answer_at H role) before head place)

module _ (before now : DeskView (Catalogue (List ℕ))) (role : Role) (head : Head) (a b : ConnView)
    (old new : List ℕ) where
  -- the reply was sent
  pub record IsAnswered : Type 0 where
    pub takes : TakesPlace before now old new
    pub sent : IsSent a b (IsReplyAt now role (length old) head takes.place)

  -- the reply was cut, since a write failed
  pub record IsAnsweredInPart : Type 0 where
    pub takes : TakesPlace before now old new
    pub cut : IsCutOff a b (IsReplyAt now role (length old) head takes.place)

  -- nothing was sent: the enter was refused, or there was no memory for the reply
  pub record IsUnanswered : Type 0 where
    pub kept : b ≡ a
    pub why : TakesPlace before now old new ⊎ (IsRefused before now × (new ≡ old))

  -- what became of a request: none where the connection is open after it
  abbrev pub AnswersOne : Result (Option End) NoMemory → Type 0
  AnswersOne (Ok None) = IsAnswered × (is_last (length old) head ≡ false)
  AnswersOne (Ok (Some end.Closed)) = IsAnswered × (is_last (length old) head ≡ true)
  AnswersOne (Ok (Some end.WriteFault)) = IsAnsweredInPart
  AnswersOne (Ok (Some end.ReadFault)) = ⊥
  AnswersOne (Ok (Some end.NoMemory)) = ⊥
  AnswersOne (Err fault) = IsUnanswered

-- the connection is served on, or was served to its end
abbrev pub ServesOn : DeskView (Catalogue (List ℕ)) → Role → ConnView → ConnView
    → (held places : List ℕ) → Result (Option End) NoMemory → Type 0
ServesOn desk role before now held places (Ok None) =
    IsServing desk role before now held places
ServesOn desk role before now held places (Ok (Some e)) = ServesConn desk role before now places e
ServesOn desk role before now held places (Err fault) = ServesPart desk role before now places

-- one enter for each place, and perhaps one more where memory ran out
abbrev pub EntersOn : DeskView (Catalogue (List ℕ)) → List ℕ → DeskView (Catalogue (List ℕ))
    → Result (Option End) NoMemory → Type 0
EntersOn before places now (Ok e) = EntersEach before places now
EntersOn before places now (Err fault) = EntersFor before places now end.NoMemory
