-- What one exchange does with another server, and what a call for such a server does to a network.
-- Of content that an object does not tell nothing is said.
use Rattle.std.specs.Prelude.{◌≡◌, ℕ, ◌+◌, ◌≤◌, List, [], ◌∷◌, ◌++◌, length, ⊤, Bool, true, false}
use Rattle.std.specs.Prelude.{Option, None, Some, IfSome}
use Rattle.td_base.specs.Views.{Rose}
use Rattle.td_base.specs.DoorViews.{NetworkContent, NetworkView}
use Rattle.td_base.specs.Doors.{called, is_failed_call}
use Rattle.td_base.specs.declared.network.Made.{Made}
use Rattle.td_base.specs.declared.network.Made.TheVariants as made
use Rattle.td_base.specs.declared.upstream.Exchange.{Exchange}
use Rattle.td_base.specs.declared.upstream.Exchanged.{Exchanged}
use Rattle.td_base.specs.declared.upstream.Exchanged.TheVariants as exchanged

-- another server: the exchanges with it that gave an answer, in their order, None where it tells
-- nothing; and how often it failed so far
pub record UpstreamView : Type 0 where
  pub told : Option (List Exchange)
  pub faults : ℕ

-- ---- exchanges

-- the exchanges told grow by these
abbrev pub TellsMore : Option (List Exchange) → Option (List Exchange) → List Exchange → Type 0
TellsMore (Some old) (Some new) more = new ≡ old ++ more
TellsMore (Some old) None more = ⊥
TellsMore None (Some new) more = ⊥
TellsMore None None more = ⊤

-- the exchange that an answer makes, if there is one
abbrev pub exchanges_told : List ℕ → ℕ → Exchanged → List Exchange
exchanges_told request most (exchanged.Got answer) =
    record { request = request; most = most; answer = answer } ∷ []
exchanges_told request most exchanged.Failed = []
exchanges_told request most exchanged.NoMemory = []

-- no more bytes came than were asked for
abbrev pub ExchangeFits : ℕ → Exchanged → Type 0
ExchangeFits most (exchanged.Got answer) = length answer ≤ most
ExchangeFits most exchanged.Failed = ⊤
ExchangeFits most exchanged.NoMemory = ⊤

abbrev pub is_failed_exchange : Exchanged → Bool
is_failed_exchange (exchanged.Got answer) = false
is_failed_exchange exchanged.Failed = true
is_failed_exchange exchanged.NoMemory = false

-- one exchange: it failed only where the count of faults rose, by one at the most, and every other
-- answer leaves it
pub record Exchanges (old new : UpstreamView) (request : List ℕ) (most : ℕ) (result : Exchanged)
    : Type 0 where
  pub fits : ExchangeFits most result
  pub told : TellsMore old.told new.told (exchanges_told request most result)
  pub later : old.faults ≤ new.faults
  pub once : new.faults ≤ old.faults + 1
  pub steady : is_failed_exchange result ≡ false → new.faults ≡ old.faults
  pub failed : result ≡ exchanged.Failed → Rose old.faults new.faults

-- ---- networks

-- another server of which nothing was asked yet
pub record IsNewUpstream (upstream : UpstreamView) : Type 0 where
  pub told : IfSome upstream.told (λ exchanges. exchanges ≡ [])
  pub faults : upstream.faults ≡ 0

-- the network after one more call, which gave an upstream at an address
abbrev pub reached_at : List ℕ → NetworkContent → NetworkContent
reached_at address content = record (called content) {
  reached = content.reached ++ address ∷ [];
}

module _ {U : Type 0} (seen : U → UpstreamView) where
  -- a network that tells what it has gives an upstream that tells its exchanges
  abbrev pub ReachTells : NetworkContent → NetworkContent → List ℕ → Made U → Type 0
  ReachTells old new address (made.Given upstream) =
      (old.upstreams ≡ new.upstreams + 1)
      × (new ≡ record (reached_at address old) { upstreams = new.upstreams })
      × ((seen upstream).told ≡ Some [])
  ReachTells old new address made.Failed = new ≡ called old
  ReachTells old new address made.NoMemory = new ≡ called old

  abbrev pub ReachTold : Option NetworkContent → Option NetworkContent → List ℕ → Made U → Type 0
  ReachTold (Some old) (Some new) address result = ReachTells old new address result
  ReachTold (Some old) None address result = ⊥
  ReachTold None (Some new) address result = ⊥
  ReachTold None None address result = ⊤

  -- of an upstream that was given nothing was asked yet
  abbrev pub ReachFits : Made U → Type 0
  ReachFits (made.Given upstream) = IsNewUpstream (seen upstream)
  ReachFits made.Failed = ⊤
  ReachFits made.NoMemory = ⊤

-- one call for an upstream: it failed only where the count of faults rose, by one at the most, and
-- every other answer leaves it
pub record Reaches {U : Type 0} (seen : U → UpstreamView) (old new : NetworkView)
    (address : List ℕ) (result : Made U) : Type 0 where
  pub told : ReachTold seen old.content new.content address result
  pub fits : ReachFits seen result
  pub later : old.faults ≤ new.faults
  pub once : new.faults ≤ old.faults + 1
  pub steady : is_failed_call result ≡ false → new.faults ≡ old.faults
  pub failed : result ≡ made.Failed → Rose old.faults new.faults
