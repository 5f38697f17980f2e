-- A sync ends well with an empty list that was requested with a token.
use Rattle.std.proofs.Common.{◌≡◌, ℕ, List, [], ◌∷◌, Option, None, Some, Ok, refl, ap, subst, ◌∙◌}
use Rattle.td_base.specs.declared.report.Ask.TheVariants as ask
use Rattle.td_base.specs.declared.upstream.Exchange.{Exchange}
use Rattle.json_forms.specs.declared.zone_list.ListDoc.{ListDoc}
use Rattle.json_forms.specs.declared.zone_list.ListZone.{ListZone}
use Rattle.http_client.specs.Requests.{request_text}
use Rattle.sync_core.specs.Mirrors.{MirrorState, ask_for, ask_of}
use Rattle.sync_core.specs.Steps.{IsAnswerTo, list_settles, settles}
use Rattle.sync_core.specs.declared.heard_type.Heard.{Heard}
use Rattle.sync_core.specs.declared.heard_type.Heard.TheVariants as heard
use Rattle.sync_core.specs.declared.heard_type.Settled.TheVariants.{Holds}
use Rattle.mirror.specs.Shares.{SyncEnds, failed, not_settled, refused, settled, starved, unreadable}
use Rattle.mirror.specs.Understanding.{Means}
use Rattle.mirror.specs.declared.understood_type.Understood.TheVariants as understood
use Rattle.mirror.proofs.lemmas.Meanings.{answers}
use Rattle.sync_laws.specs.SyncEnds.{EndsUnchanged, IsEmptyChangeList}
use Rattle.sync_laws.proofs.Statuses.{list_taken}

no_zones : (token : Option (List ℕ)) (doc : ListDoc) (zones : List ListZone) → doc.zones ≡ zones → list_settles token zones ≡ Holds
    → IsEmptyChangeList (ask.List token) (heard.List doc)
no_zones None doc zones is e = absurd (cc)
no_zones (Some token) doc [] is e = record { token = token; asked = refl; doc = doc; came = refl; empty = is }
no_zones (Some token) doc (z ∷ zs) is e = absurd (cc)

by_pending : (pending : List (List ℕ)) (token : Option (List ℕ)) (doc : ListDoc) → IsAnswerTo (ask_for pending token) (heard.List doc)
    → list_settles token doc.zones ≡ Holds → IsEmptyChangeList (ask_for pending token) (heard.List doc)
by_pending [] token doc answer e = no_zones token doc doc.zones refl e
by_pending (tzid ∷ tzids) token doc answer e = absurd (answer)

pub empty_changes : (s : MirrorState) (h : Heard) → IsAnswerTo (ask_of s) h → settles s h ≡ Holds → IsEmptyChangeList (ask_of s) h
empty_changes s (heard.List doc) answer e = by_pending s.pending s.token doc answer e
empty_changes s (heard.Zone bytes) answer e = absurd (cc)
empty_changes s heard.BadToken answer e = absurd (cc)

module _ (host : List ℕ) (s t : MirrorState) (taken untaken : List Exchange)
    (empties : (s : MirrorState) (h : Heard) → IsAnswerTo (ask_of s) h → settles s h ≡ Holds → IsEmptyChangeList (ask_of s) h) where
  pub ends_unchanged : SyncEnds (request_text host) Means s t taken untaken (Ok tt) → EndsUnchanged host taken
  ends_unchanged (settled first last u h asks holds is parts none ok) =
      let meant = asks.is_for.is_meant in
      let empty = empties u h (answers (ask_of u) last.answer h meant) holds in
      let list = list_taken (ask_of u) last.answer empty.doc (subst (λ (k : Heard). Means (ask_of u) last.answer (understood.Hears k)) empty.came meant) in
      record {
        first = first;
        last = last;
        parts = parts;
        token = empty.token;
        asked = asks.is_for.request ∙ ap (request_text host) empty.asked;
        body = list.body;
        reply = list.reply;
        doc = empty.doc;
        reads = list.reads;
        empty = empty.empty;
      }
  ends_unchanged (unreadable x place asks parts e) = absurd (cc)
  ends_unchanged (refused x status asks parts e) = absurd (cc)
  ends_unchanged (not_settled walks parts e) = absurd (cc)
  ends_unchanged (failed lists walks few parts e) = absurd (cc)
  ends_unchanged (starved lists walks few asked e) = absurd (cc)
