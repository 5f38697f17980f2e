-- The law: where a mirror says that it holds what the primary has, it does.
use Rattle.std.proofs.Common.{◌≡◌, ℕ, ◌≤◌, Option, None, Some, List, [], ◌∷◌, length, take, refl, sym, ap, ◌∙◌, subst, arith, length-take, option_map}
use Rattle.td_base.specs.declared.report.Ask.{Ask}
use Rattle.td_base.specs.declared.report.Ask.TheVariants as ask
use Rattle.catalogue.specs.Histories.{IsHistory}
use Rattle.catalogue.specs.Lookups.{named, zones_of}
use Rattle.catalogue.specs.Releases.{ContentData, ReleaseData}
use Rattle.json_forms.specs.declared.zone_list.ListDoc.{ListDoc}
use Rattle.json_forms.specs.declared.zone_list.ListZone.{ListZone}
use Rattle.sync_core.specs.Mirrors.{MirrorState, ask_for}
use Rattle.sync_core.specs.Steps.{settles, list_settles}
use Rattle.sync_core.specs.declared.heard_type.Heard.{Heard}
use Rattle.sync_core.specs.declared.heard_type.Heard.TheVariants as heard
use Rattle.sync_core.specs.declared.heard_type.Settled.TheVariants.{Holds}
use Rattle.sync_world.specs.Holding.{HoldsLast}
use Rattle.sync_world.specs.Primaries.{HeardIsTold, FindsPlaces, FindsNoOther, Service, file_told, served_for, told_by}
use Rattle.sync_world.specs.Worlds.{SyncWorld, Sent, WorldStep, IsAnswer, Leads, world_after, world_begun}
use Rattle.sync_world.proofs.Files.{history_front}
use Rattle.sync_world.proofs.Lists.{exactly}
use Rattle.sync_world.proofs.Looks.{state_ask, state_after, looked_up}
use Rattle.sync_world.proofs.Runs.{HoldsState, SentStands, always, settled_holds, told_so}
use Rattle.sync_world.proofs.Shown.{IsRisingMirror, shown}

-- an empty list that was asked for with a token
record IsQuiet (s : MirrorState) (h : Heard) : Type 0 where
  token : List ℕ
  doc : ListDoc
  token_is : s.token ≡ Some token
  is : h ≡ heard.List doc
  empty : doc.zones ≡ []

quiet_by : (s : MirrorState) (doc : ListDoc) (o : Option (List ℕ)) (zones : List ListZone) → s.token ≡ o → doc.zones ≡ zones → list_settles o zones ≡ Holds
    → IsQuiet s (heard.List doc)
quiet_by s doc None zones e k h = absurd (cc)
quiet_by s doc (Some token) (z ∷ zs) e k h = absurd (cc)
quiet_by s doc (Some token) [] e k h = record { token = token; doc = doc; token_is = e; is = refl; empty = k }

quiet_is : (s : MirrorState) (h : Heard) → settles s h ≡ Holds → IsQuiet s h
quiet_is s (heard.List doc) k = quiet_by s doc s.token doc.zones refl refl k
quiet_is s (heard.Zone bytes) k = absurd (cc)
quiet_is s heard.BadToken k = absurd (cc)

-- a file is no list
no_list : (P : Service) (G : List ReleaseData) (t : List ℕ) (doc : ListDoc) → told_by P G (ask.Get t) ≡ Some (heard.List doc) → ⊥
no_list P G t doc e = by (named (zones_of G) t) e
  where
    by : (o : Option ContentData) → option_map file_told (served_for P t o) ≡ Some (heard.List doc) → ⊥
    by None k = absurd (cc)
    by (Some c) k = absurd (cc)

-- so nothing is pending where a list is told
list_asked : (P : Service) (G : List ReleaseData) (doc : ListDoc) (token : List ℕ) (pending : List (List ℕ)) (held : Option (List ℕ)) → held ≡ Some token
    → told_by P G (ask_for pending held) ≡ Some (heard.List doc) → ask.List (Some token) ≡ ask_for pending held
list_asked P G doc token [] held e k = ap ask.List (sym e)
list_asked P G doc token (t ∷ ts) held e k = absurd (no_list P G t doc k)

module _ (P : Service) (sound : ReleaseData → Type 0) (hears : List ReleaseData → Ask → Heard → Type 0) (so : HeardIsTold sound hears P)
    (finds : FindsPlaces sound P) (no_other : FindsNoOther sound P) where
  pub law : (H : List ReleaseData) (xs : List WorldStep) (w v : SyncWorld) (n : ℕ) (sent : Sent) (h : Heard) → IsHistory sound H → 1 ≤ length H
      → Leads sound hears (world_begun H) xs w
      → IsAnswer hears w n v sent h → settles w.mirror h ≡ Holds → HoldsLast P v.mirror (take n w.history)
  law H xs w v n sent h history some leads a holds =
      let i = always P sound hears so finds no_other H xs w history some leads in
      let k = subst (SentStands P w.history (looked_up w.mirror)) a.outstanding i.state in
      let q = quiet_is w.mirror h holds in
      let low : 1 ≤ sent.since = k.1 in
      let from : sent.since ≤ n = a.from in
      let upto : n ≤ length w.history = a.upto in
      let said : told_by P (take n w.history) sent.ask ≡ Some (heard.List q.doc) =
      told_so P sound hears so w.history n sent.ask h i.history (omega arith) a.upto a.is_heard ∙ ap Some q.is in
      let asked : ask.List (Some q.token) ≡ state_ask (looked_up w.mirror) =
      list_asked P (take n w.history) q.doc q.token w.mirror.pending w.mirror.token q.token_is (ap (told_by P (take n w.history)) (sym k.0) ∙ said) in
      let state : HoldsState P (state_after (looked_up w.mirror) (heard.List q.doc)) (take n w.history) =
      settled_holds P sound finds no_other w.history (looked_up w.mirror) i.history n sent.since q.token q.doc a.from (omega arith, a.upto) q.empty asked
      (ap (told_by P (take n w.history)) asked ∙ ap (told_by P (take n w.history)) (sym k.0) ∙ said) k.3 in
      let shows : HoldsState P (looked_up (world_after w h).mirror) (take n w.history) =
      subst (λ s. HoldsState P s (take n w.history)) (ap (state_after (looked_up w.mirror)) (sym q.is) ∙ sym (shown w.mirror h)) state in
      let rises : IsRisingMirror (world_after w h).mirror = Rattle.sync_world.proofs.Shown.rising_after w.mirror h i.rises in
      subst (λ u. HoldsLast P u.mirror (take n w.history)) (sym a.is_taken)
      (exactly P sound (take n w.history) (world_after w h).mirror (history_front sound w.history n i.history) (omega (arith, length-take n w.history)) rises
      shows)
