-- What the network comes to, once it was called for a server to follow.
use Rattle.std.proofs.Common.{ℕ, List, Option, None, Some, refl}
use Rattle.td_base.specs.DoorViews.{NetworkContent, NetworkView}
use Rattle.td_base.specs.Upstreams.{ReachTold, Reaches, UpstreamView}
use Rattle.td_base.specs.declared.network.Made.TheVariants as made
use Rattle.run_ends.specs.Running.Mirroring.{ReachedTold, ReachesServer}
use Rattle.run_ends.specs.Running.Server.{CalledTold}

reached_told : {U : Type 0} (seen : U → UpstreamView) (before now : Option NetworkContent) (address : List ℕ) (server : U)
    → ReachTold seen before now address (made.Given server) → ReachedTold before now address (seen server)
reached_told seen (Some before) (Some now) address server h = h
reached_told seen (Some before) None address server h = absurd h
reached_told seen None (Some now) address server h = absurd h
reached_told seen None None address server h = tt

pub reaches_server : {U : Type 0} (seen : U → UpstreamView) (before now : NetworkView) (address : List ℕ) (server : U)
    → Reaches seen before now address (made.Given server) → ReachesServer before now address (seen server)
reaches_server seen before now address server h =
    record { steady = h.steady refl; new = h.fits; told = reached_told seen before.content now.content address server h.told }

-- a call that failed gave nothing
pub not_told : {U : Type 0} (seen : U → UpstreamView) (before now : Option NetworkContent) (address : List ℕ) → ReachTold seen before now address made.Failed
    → CalledTold before now
not_told seen (Some before) (Some now) address h = h
not_told seen (Some before) None address h = absurd h
not_told seen None (Some now) address h = absurd h
not_told seen None None address h = tt

-- nor did one for which there was no memory
pub not_called : {U : Type 0} (seen : U → UpstreamView) (before now : Option NetworkContent) (address : List ℕ)
    → ReachTold seen before now address made.NoMemory → CalledTold before now
not_called seen (Some before) (Some now) address h = h
not_called seen (Some before) None address h = absurd h
not_called seen None (Some now) address h = absurd h
not_called seen None None address h = tt
