-- What the calls below a load come to.
use Rattle.std.specs.Prelude.{◌≡◌, ℕ, List, [], ◌∷◌, ◌++◌, length}
use Rattle.catalogue.specs.Holdings.{history_of}
use Rattle.catalogue.specs.Releases.{ReleaseData}
use Rattle.catalogue.specs.declared.holding.Catalogue.{Catalogue}
use Rattle.connection.specs.FaultCounts.{faults_of}
use Rattle.connection.specs.Served.{IsClosed}
use Rattle.connection.specs.Serving.{answer_at, session_of}
use Rattle.connection.specs.Traffic.{Traffic}
use Rattle.made_load.specs.Counts.{CountsReply}
use Rattle.made_load.specs.declared.counts.LoadCounts.{LoadCounts}
use Rattle.td_base.specs.Views.{ConnView}
use Rattle.td_base.specs.declared.report.Role.TheVariants as role
use Rattle.run_ends.specs.Running.Loading.{IsRequestAnswered, IsMadeAfter}

-- a connection was served to its close, and one request was answered, at the last place of a
-- history
pub record ClosesOver (H : List ReleaseData) (before now : ConnView) : Type 0 where
  pub read : List ℕ
  pub written : List ℕ
  pub traffic : Traffic before now read written
  pub closed : IsClosed (answer_at H role.Primary) (session_of now read written (length H ∷ []))
      (faults_of before) (faults_of now)

-- a request was answered, and its reply was counted
pub record AnswersCounted (H : List ReleaseData) (request : List ℕ) (before now : LoadCounts)
    : Type 0 where
  pub reply : List ℕ
  pub answered : IsRequestAnswered H request reply
  pub counted : CountsReply reply before now

-- one made release more was published
pub record JoinsMade (old now : List (Catalogue (List ℕ))) : Type 0 where
  pub release : ReleaseData
  pub made : IsMadeAfter (history_of old) release
  pub now_is : history_of now ≡ history_of old ++ release ∷ []
