-- What is sent over a connection.
use Rattle.std.specs.Prelude.{ℕ, ◌⊎◌, List, [], take}
use Rattle.http_answer.specs.Replies.{fixed}
use Rattle.td_base.specs.Views.{ConnView}
use Rattle.td_base.specs.declared.report.End.{End}
use Rattle.td_base.specs.declared.report.End.TheVariants as end
use Rattle.td_base.specs.declared.transfer.Written.{Written}
use Rattle.td_base.specs.declared.transfer.Written.TheVariants as written
use Rattle.connection.specs.FaultCounts.{WriteFailed, faults_of}
use Rattle.connection.specs.Traffic.{Passes, Traffic}

-- a prefix was taken, since a write failed
pub record IsReplyCut (before now : ConnView) (bytes : List ℕ) : Type 0 where
  pub sent : ℕ
  pub traffic : Traffic before now [] (take sent bytes)
  pub cause : WriteFailed (faults_of before) (faults_of now)

-- the reply that tells that memory ran out, or a prefix of it where a write failed
abbrev pub GivesUp : ConnView → ConnView → Type 0
GivesUp before now = Passes before now [] (fixed 503) ⊎ IsReplyCut before now (fixed 503)

-- a reply was sent, of which this is said
pub record IsSent (before now : ConnView) (P : List ℕ → Type 0) : Type 0 where
  pub reply : List ℕ
  pub passes : Passes before now [] reply
  pub is : P reply

pub record IsCutOff (before now : ConnView) (P : List ℕ → Type 0) : Type 0 where
  pub reply : List ℕ
  pub cut : IsReplyCut before now reply
  pub is : P reply

abbrev pub SendsReply : (P : List ℕ → Type 0) → ConnView → ConnView → Written → Type 0
SendsReply P before now written.Whole = IsSent before now P
SendsReply P before now written.Cut = IsCutOff before now P

-- a refusal was sent, whole or cut
abbrev pub Refuses : ConnView → ConnView → ℕ → End → Type 0
Refuses before now status end.Closed = Passes before now [] (fixed status)
Refuses before now status end.WriteFault = IsReplyCut before now (fixed status)
Refuses before now status end.ReadFault = ⊥
Refuses before now status end.NoMemory = ⊥
