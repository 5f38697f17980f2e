-- What a history grows by, after any calls.
use Rattle.std.proofs.Common.{ℕ, List, ◌++◌, [], Result, refl, ◌∙◌, arith}
use Rattle.td_base.specs.Upstreams.{UpstreamView}
use Rattle.td_base.proofs.lemmas.LaterLemmas.{store_refl, store_trans}
use Rattle.mirror.proofs.lemmas.Told.{tells_none, tells_on}
use Rattle.mirror.specs.declared.sync_fault.SyncFault.{SyncFault}
use Rattle.sync_core.specs.Mirrors.{MirrorState}
use Rattle.run_ends.specs.Following.{LaterUpstream, SyncsAs}
use Rattle.run_ends.specs.Feeds.{FeedView, LaterFeed, folders, following}

pub upstream_refl : (u : UpstreamView) → LaterUpstream u u
upstream_refl u = record { exchanges = []; told = tells_none u.told; faults = omega arith }

pub upstream_trans : (a b c : UpstreamView) → LaterUpstream a b → LaterUpstream b c → LaterUpstream a c
upstream_trans a b c p q = record {
  exchanges = p.exchanges ++ q.exchanges;
  told = tells_on a.told b.told c.told p.exchanges q.exchanges p.told q.told;
  faults = omega (arith, p.faults, q.faults);
}

pub feed_refl : (g : FeedView) → LaterFeed g g
feed_refl (folders rules store) = (refl, store_refl store)
feed_refl (following host s upstream) = (refl, upstream_refl upstream)

pub feed_trans : (a b c : FeedView) → LaterFeed a b → LaterFeed b c → LaterFeed a c
feed_trans (folders r a) (folders q b) (folders o c) x y = (y.0 ∙ x.0, store_trans a b c x.1 y.1)
feed_trans (folders r a) (folders q b) (following h s c) x y = absurd y
feed_trans (folders r a) (following h s b) c x y = absurd x
feed_trans (following h s a) (folders q b) c x y = absurd x
feed_trans (following h s a) (following i t b) (folders o c) x y = absurd y
feed_trans (following h s a) (following i t b) (following j u c) p q = (q.0 ∙ p.0, upstream_trans a b c p.1 q.1)

-- a sync was made
pub later_sync : (host : List ℕ) (s t : MirrorState) (old new : UpstreamView) (result : Result (Unit {0}) SyncFault) → SyncsAs host s t old new result
    → LaterFeed (following host s old) (following host t new)
later_sync host s t old new result h = (refl, record { exchanges = h.taken ++ h.untaken; told = h.told; faults = h.later })
