-- What was read and written, one after the other.
use Rattle.std.proofs.Common.{◌≡◌, ℕ, List, [], ◌++◌, inl, inr, refl, ap, ◌∙◌, subst, append-nil}
use Rattle.std.proofs.KnownBytes.{Consumes-nil, Consumes-trans, Appends-nil, Appends-trans}
use Rattle.td_base.specs.Transfer.{Sends}
use Rattle.td_base.specs.Views.{ConnView}
use Rattle.connection.specs.FaultCounts.{faults_of}
use Rattle.connection.specs.Traffic.{Passes, Traffic}
use Rattle.connection.specs.Sending.{GivesUp, IsReplyCut, SendsReply}
use Rattle.http_answer.specs.Replies.{fixed}
use Rattle.td_base.specs.declared.transfer.Written.{Written}
use Rattle.td_base.specs.declared.transfer.Written.TheVariants as written

traffic_none : (a : ConnView) → Traffic a a [] []
traffic_none a = record {
  consumed = Consumes-nil a.left;
  given = Appends-nil a.given;
  taken = Appends-nil a.taken;
  same = record { source = refl; sink = refl };
}

traffic_both : (a b c : ConnView) (r s w x : List ℕ) → Traffic a b r w → Traffic b c s x → Traffic a c (r ++ s) (w ++ x)
traffic_both a b c r s w x p q = record {
  consumed = Consumes-trans a.left b.left c.left r s p.consumed q.consumed;
  given = Appends-trans a.given b.given c.given r s p.given q.given;
  taken = Appends-trans a.taken b.taken c.taken w x p.taken q.taken;
  same = record { source = q.same.source ∙ p.same.source; sink = q.same.sink ∙ p.same.sink };
}

pub read_on : (a b c : ConnView) (r s w : List ℕ) → Traffic a b r w → Traffic b c s [] → Traffic a c (r ++ s) w
read_on a b c r s w p q = subst (λ x. Traffic a c (r ++ s) x) (append-nil w) (traffic_both a b c r s w [] p q)

pub wrote_on : (a b c : ConnView) (r w x : List ℕ) → Traffic a b r w → Traffic b c [] x → Traffic a c r (w ++ x)
wrote_on a b c r w x p q = subst (λ s. Traffic a c s (w ++ x)) (append-nil r) (traffic_both a b c r [] w x p q)

pub passes_none : (a : ConnView) → Passes a a [] []
passes_none a = record { traffic = traffic_none a; steady = refl }

pub passes_read : (a b c : ConnView) (r s w : List ℕ) → Passes a b r w → Passes b c s [] → Passes a c (r ++ s) w
passes_read a b c r s w p q = record { traffic = read_on a b c r s w p.traffic q.traffic; steady = q.steady ∙ p.steady }

pub passes_written : (a b c : ConnView) (r w x : List ℕ) → Passes a b r w → Passes b c [] x → Passes a c r (w ++ x)
passes_written a b c r w x p q = record { traffic = wrote_on a b c r w x p.traffic q.traffic; steady = q.steady ∙ p.steady }

-- ---- counts

same_counts : (a b : ConnView) → b.read_faults ≡ a.read_faults → b.write_faults ≡ a.write_faults → faults_of b ≡ faults_of a
same_counts a b r w = rw (r, w) refl

-- ---- what was sent

-- whole: it was written, and nothing was read
pub sent_whole : (a b : ConnView) (bytes : List ℕ) → Sends a b bytes written.Whole → Passes a b [] bytes
sent_whole a b bytes p = record {
  traffic = record {
    consumed = rw (ap (λ s. s.left) p.read) (Consumes-nil a.left);
    given = rw p.given (Appends-nil a.given);
    taken = p.writes.told;
    same = p.same;
  };
  steady = same_counts a b (ap (λ s. s.faults) p.read) (p.writes.steady refl);
}

-- a prefix was written of what was cut
pub sent_cut : (a b : ConnView) (bytes : List ℕ) → Sends a b bytes written.Cut → IsReplyCut a b bytes
sent_cut a b bytes p = record {
  sent = p.writes.told.0;
  traffic = record {
    consumed = rw (ap (λ s. s.left) p.read) (Consumes-nil a.left);
    given = rw p.given (Appends-nil a.given);
    taken = p.writes.told.1;
    same = p.same;
  };
  cause = record { once = record { later = p.writes.later; least = p.writes.failed refl; most = p.writes.once }; reads = ap (λ s. s.faults) p.read };
}

-- the reply that tells that memory ran out, however it was sent
pub gives_up : (a b : ConnView) (r : Written) → Sends a b (fixed 503) r → GivesUp a b
gives_up a b written.Whole p = inl (sent_whole a b (fixed 503) p)
gives_up a b written.Cut p = inr (sent_cut a b (fixed 503) p)

-- a reply of which something is said
pub sends_reply : (P : List ℕ → Type 0) (a b : ConnView) (bytes : List ℕ) (w : Written) → Sends a b bytes w → P bytes → SendsReply P a b w
sends_reply P a b bytes written.Whole s p = record { reply = bytes; passes = sent_whole a b bytes s; is = p }
sends_reply P a b bytes written.Cut s p = record { reply = bytes; cut = sent_cut a b bytes s; is = p }

-- of which more is known
pub sends_more : (P Q : List ℕ → Type 0) → ((bytes : List ℕ) → P bytes → Q bytes) → (a b : ConnView) (w : Written) → SendsReply P a b w → SendsReply Q a b w
sends_more P Q more a b written.Whole s = record { reply = s.reply; passes = s.passes; is = more s.reply s.is }
sends_more P Q more a b written.Cut s = record { reply = s.reply; cut = s.cut; is = more s.reply s.is }
